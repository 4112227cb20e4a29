-- A text that is written while it grows.
use Rattle.std.proofs.Common.{◌≡◌, ℕ, List, [], ◌++◌, length, take, drop, Option, Some, None, refl}
use Rattle.std.proofs.Common.{Result, Ok, Err, OnOk, OnErr, subst, sym, ◌∙◌, ap, append_assoc}
use Rattle.std.proofs.Common.{append-nil}
use Rattle.std.proofs.Common.{take-append-drop}
use Rattle.rt_base.specs.Outside.{with_bytes}
use Rattle.rtec_main.specs.Writes.{IsOnWay, IsCut}
use Rattle.rtec_main.proofs.Streams.{with_more}
use Rattle.std.proofs.Math.Seq.{take-append_seam}

pub on_err : {X E : Type 0} (r : Result X E) (P : Type 0) → P → OnErr r P
on_err (Ok x) P p = tt
on_err (Err e) P p = p

pub on_ok_both : {X E : Type 0} (r : Result X E) (P Q : Type 0) → OnOk r P → OnOk r Q
    → OnOk r (P × Q)
on_ok_both (Ok x) P Q p q = (p, q)
on_ok_both (Err e) P Q p q = tt

with_none : (taken : Option (List ℕ)) → taken ≡ with_bytes [] taken
with_none None = refl
with_none (Some bytes) = ap (λ (b : List ℕ). Some b) (sym (append-nil bytes))

-- nothing is written yet
pub way_starts : (taken : Option (List ℕ)) (text : List ℕ) → IsOnWay taken taken text text
way_starts taken text = record { written = []; is = refl; taken = with_none taken }

-- all is written
pub way_whole : (old now : Option (List ℕ)) (text : List ℕ) → IsOnWay old now [] text
    → now ≡ with_bytes text old
way_whole old now text way =
    way.taken ∙ ap (λ w. with_bytes w old) (sym (append-nil way.written) ∙ way.is)

-- the text that is left grows, and some more of it is written
way_goes : (old mid now : Option (List ℕ)) (left more next text : List ℕ)
    → IsOnWay old mid left text → IsOnWay mid now next (left ++ more)
    → IsOnWay old now next (text ++ more)
way_goes old mid now left more next text first second = record {
  written = first.written ++ second.written;
  is = append_assoc first.written second.written next
      ∙ ap (λ r. first.written ++ r) second.is
      ∙ sym (append_assoc first.written left more)
      ∙ ap (λ r. r ++ more) first.is;
  taken = with_more first.written second.written old mid now first.taken second.taken;
}

-- the same where the text that is left and the whole one are known by other words
pub way_next : (old mid now : Option (List ℕ)) (left more grown next text whole : List ℕ)
    → IsOnWay old mid left text → grown ≡ left ++ more → IsOnWay mid now next grown
    → text ++ more ≡ whole → IsOnWay old now next whole
way_next old mid now left more grown next text whole first is second all =
    subst (IsOnWay old now next) all
    (way_goes old mid now left more next text first (subst (IsOnWay mid now next) is second))

-- so it is of a text that is cut
pub cut_next : (old mid now : Option (List ℕ)) (left more grown text whole : List ℕ)
    → IsOnWay old mid left text → grown ≡ left ++ more → (cut : IsCut mid now grown)
    → text ++ more ≡ whole → IsOnWay old now cut.0 whole
cut_next old mid now left more grown text whole first is cut all =
    way_next old mid now left more grown cut.0 text whole first is cut.1 all

-- the text goes on behind what is left
pub way_longer : (old now : Option (List ℕ)) (left text more : List ℕ) → IsOnWay old now left text
    → IsOnWay old now (left ++ more) (text ++ more)
way_longer old now left text more way = record {
  written = way.written;
  is = sym (append_assoc way.written left more) ∙ ap (λ r. r ++ more) way.is;
  taken = way.taken;
}

-- a beginning of a text was written
pub way_of_front : (old now : Option (List ℕ)) (text : List ℕ) (n : ℕ)
    → now ≡ with_bytes (take n text) old → IsCut old now text
way_of_front old now text n is =
    (drop n text, record { written = take n text; is = take-append-drop n text; taken = is })

pub front_of_way : (old now : Option (List ℕ)) (text : List ℕ) → (cut : IsCut old now text)
    → now ≡ with_bytes (take (length cut.1.written) text) old
front_of_way old now text (left, way) =
    way.taken
    ∙ ap (λ w. with_bytes w old) (sym (take-append_seam way.written left)
    ∙ ap (take (length way.written)) way.is)

-- nothing of a text was written
pub cut_none : (taken : Option (List ℕ)) (text : List ℕ) → IsCut taken taken text
cut_none taken text = (text, way_starts taken text)
