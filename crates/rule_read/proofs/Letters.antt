-- The kinds of words, and the reserved words.
use Rattle.std.proofs.Common.{◌≡◌, ℕ, Bool, true, false, ◌&&◌, List, refl}
use Rattle.std.specs.List.{list_all}
use Rattle.rt_base.specs.Kinds.{is_letter, is_word, first_is}
use Rattle.std.proofs.lemmas.Bool.{and_parts}
use Rattle.rule_read.specs.declared.keyword.Kind.{Kind}
use Rattle.rule_read.specs.declared.keyword.Kind.TheVariants as kind
use Rattle.rule_read.specs.Words.{is_of}

middle : (a b c : Bool) → (a && b && c) ≡ true → b ≡ true
middle a true c h = refl
middle true false c h = absurd cc
middle false false c h = absurd cc

letters_of_word : (first : ℕ → Bool) (w : List ℕ) → is_word first w ≡ true → list_all is_letter w
    ≡ true
letters_of_word first w h = middle (first_is first w) (list_all is_letter w) _ h

pub letters_of : (k : Kind) (w : List ℕ) → is_of k w ≡ true → list_all is_letter w ≡ true
letters_of kind.Name w h = letters_of_word _ w (and_parts _ _ h).0
letters_of kind.Constant w h = letters_of_word _ w h
letters_of kind.Variable w h = letters_of_word _ w h
