-- Worked examples: which words say names, where names and copies stand, and where a name is kept.
use Prim.Native.Nat.{ℕ, ◌+◌}
use mathlib.Core.Path.{◌≡◌, refl, ap, ◌∙◌, subst}
use mathlib.Core.Bool.{true, false, cond, not}
use mathlib.Core.List.{List, [], ◌∷◌, ◌++◌}
use lib.Dec.{eqb, ltb}
use lib.ListN.{length, get_or}
use lib.Seq.{get_or-append-add}
use Rattle.store.specs.Field.{BLOCK, STATES, NAMES, LENGTH}
use Rattle.store.specs.States.{BYTES, word_of_name, is_name, name_at, copy_at}
use Rattle.states.specs.Places.{first_from, lowest, keeps_name, is_free, place_of, free_place, keep_place}
use Rattle.states.proofs.Lowest.{first_same}

-- ---- words

first_name : word_of_name 0 ≡ 1
first_name = refl

last_name : word_of_name 255 ≡ 256
last_name = refl

all_names : BYTES ≡ 256
all_names = refl

zero_is_free : is_name 0 ≡ false
zero_is_free = refl

one_is_a_name : is_name 1 ≡ true
one_is_a_name = refl

last_is_a_name : is_name 256 ≡ true
last_is_a_name = refl

next_is_free : is_name 257 ≡ false
next_is_free = refl

-- ---- where they stand: the live block, four names, four copies, and no more

four_places : STATES ≡ 4
four_places = refl

names_next : NAMES ≡ BLOCK
names_next = refl

copies_next : copy_at 0 ≡ NAMES + 4
copies_next = refl

copies_in_turn : copy_at 2 ≡ copy_at 1 + BLOCK
copies_in_turn = refl

and_no_more : copy_at 3 + BLOCK ≡ LENGTH
and_no_more = refl

-- ---- where a name is kept, by the four words ns behind the live block

module _ (block : List ℕ) (l : length block ≡ NAMES) (ns : List ℕ) where
  said : (p : ℕ) → name_at (block ++ ns) p ≡ get_or ns p 0
  said p = subst (λ (k : ℕ). get_or (block ++ ns) (k + p) 0 ≡ get_or ns p 0) l (get_or-append-add block ns p 0)

  abbrev own : ℕ → ℕ
  own n = lowest (λ p. eqb (get_or ns p 0) (word_of_name n))

  abbrev free : ℕ
  free = lowest (λ p. not (is_name (get_or ns p 0)))

  own_said : (n : ℕ) → place_of (block ++ ns) n ≡ own n
  own_said n = first_same (λ p. keeps_name (block ++ ns) n p) (λ p. eqb (get_or ns p 0) (word_of_name n)) STATES 0 (λ j a b. ap (λ (x : ℕ). eqb x (word_of_name n)) (said j))

  free_said : free_place (block ++ ns) ≡ free
  free_said = first_same (λ p. is_free (block ++ ns) p) (λ p. not (is_name (get_or ns p 0))) STATES 0 (λ j a b. ap (λ (x : ℕ). not (is_name x)) (said j))

  keep_said : (n : ℕ) → keep_place (block ++ ns) n ≡ cond (ltb (own n) STATES) (own n) free
  keep_said n = ap (λ (p : ℕ). cond (ltb p STATES) p (free_place (block ++ ns))) (own_said n) ∙ ap (cond (ltb (own n) STATES) (own n)) free_said

module _ (block : List ℕ) (l : length block ≡ NAMES) where
  -- names 4 and 2 at places 1 and 3; 257 says none
  abbrev two : List ℕ
  two = 0 ∷ 5 ∷ 257 ∷ 3 ∷ []

  abbrev four : List ℕ
  four = 1 ∷ 256 ∷ 3 ∷ 4 ∷ []

  found : place_of (block ++ two) 2 ≡ 3
  unfolding first_from
  found = own_said block l two 2

  not_found : place_of (block ++ two) 3 ≡ 4
  unfolding first_from
  not_found = own_said block l two 3

  no_name_of_257 : place_of (block ++ two) 255 ≡ 4
  unfolding first_from
  no_name_of_257 = own_said block l two 255

  new_lowest : keep_place (block ++ two) 9 ≡ 0
  unfolding first_from
  new_lowest = keep_said block l two 9

  used_again : keep_place (block ++ two) 4 ≡ 1
  unfolding first_from
  used_again = keep_said block l two 4

  free_third : keep_place (block ++ 1 ∷ 256 ∷ 257 ∷ 4 ∷ []) 9 ≡ 2
  unfolding first_from
  free_third = keep_said block l (1 ∷ 256 ∷ 257 ∷ 4 ∷ []) 9

  -- "keeping a fifth name": past the last place
  fifth : keep_place (block ++ four) 9 ≡ 4
  unfolding first_from
  fifth = keep_said block l four 9

  one_of_four : keep_place (block ++ four) 255 ≡ 1
  unfolding first_from
  one_of_four = keep_said block l four 255
