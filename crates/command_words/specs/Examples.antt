-- No contract speaks by this: words and what they ask for. Each equation holds by computation
-- alone.
use Rattle.std.specs.Prelude.{◌≡◌, ℕ, ◌==◌, true, if◌then◌else◌, List, [], ◌∷◌, codes, refl}
use Rattle.std.specs.Prelude.{Option, Some, None}
use Rattle.command_words.specs.Words.{Text, Task, Recognise, Simulate, Live, task_of}

-- a first word that goes on with one more byte
abbrev more : ℕ → List Text → List Text
more c [] = (c ∷ []) ∷ []
more c (word ∷ words) = (c ∷ word) ∷ words

-- words that are parted by a space (32)
abbrev parted : Text → List Text
parted [] = [] ∷ []
parted (c ∷ rest) = if c == 32 then [] ∷ parted rest else more c (parted rest)

abbrev asked : Text → Option Task
asked text = task_of (parted text)

behind_equals : asked (codes "recognise a b --workers=2")
    ≡ Some (Recognise (codes "a") (codes "b") 2)
behind_equals = refl

options_end : asked (codes "recognise --workers 2 -- a -b")
    ≡ Some (Recognise (codes "a") (codes "-b") 2)
options_end = refl

between_files : asked (codes "recognise a --workers 02 b")
    ≡ Some (Recognise (codes "a") (codes "b") 2)
between_files = refl

too_many_workers : asked (codes "recognise a b --workers 17") ≡ None
too_many_workers = refl

three_digits : asked (codes "recognise a b --workers 002") ≡ None
three_digits = refl

no_value : asked (codes "recognise a b --workers") ≡ None
no_value = refl

-- the value is the next word, whatever it is
dashes_as_value : asked (codes "recognise a b --workers -- 2") ≡ None
dashes_as_value = refl

shortened : asked (codes "recognise a b --work 2") ≡ None
shortened = refl

twice : asked (codes "recognise a b --workers 1 --workers 1") ≡ None
twice = refl

one_dash : asked (codes "recognise a -b") ≡ None
one_dash = refl

no_name : asked (codes "recognise  b") ≡ None
no_name = refl

no_help : asked (codes "ground --help") ≡ None
no_help = refl

greatest_seed : asked (codes "simulate d 18446744073709551615 0000010 --full")
    ≡ Some (Simulate (codes "d") 18446744073709551615 10 1 true)
greatest_seed = refl

past_the_greatest_seed : asked (codes "simulate d 18446744073709551616 1") ≡ None
past_the_greatest_seed = refl

past_the_greatest_size : asked (codes "simulate d 7 2097153") ≡ None
past_the_greatest_size = refl

flag_with_a_value : asked (codes "simulate d 7 10 --full=1") ≡ None
flag_with_a_value = refl

live_scripts : asked (codes "live d c f --feeders 1 r")
    ≡ Some (Live (codes "d") (codes "c") (codes "f" ∷ []) (codes "r" ∷ []) 1)
live_scripts = refl

feeders_are_one_digit : asked (codes "live d c f --feeders 01") ≡ None
feeders_are_one_digit = refl

no_workers : asked (codes "recognise a b --workers 0") ≡ None
no_workers = refl

full_twice : asked (codes "simulate d 7 10 --full --full") ≡ None
full_twice = refl

nothing_to_do : asked (codes "simulate d 7 0") ≡ None
nothing_to_do = refl

feeders_are_required : asked (codes "live d c f") ≡ None
feeders_are_required = refl
