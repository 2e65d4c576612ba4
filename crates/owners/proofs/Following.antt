-- How the length of an owner chain is found, hop by hop, and written down along it.
use mathlib.Core.Path.{◌≡◌, refl, sym, ap, subst, ◌∙◌}
use mathlib.Core.Bool.{Bool, true, false, not}
use mathlib.Core.Logic.{◌≢◌}
use mathlib.Core.List.{List}
use Prim.Native.Nat.{ℕ, zero, suc, ◌+◌, ◌^◌, ◌<◌, ◌≤◌}
use native.Mathlib.Omega.{arith}
use native.Mathlib.Numerals.{add-one}
use lib.Dec.{leb}
use lib.ListN.{set, replicate}
use borrow.Author.Tests.{eq-eqb, ne_eqb, le-leb, lt-leb, leb-true, leb-false}
use Rattle.job.specs.Limits.{RECORDS}
use Rattle.store.specs.Field.{NONE}
use Rattle.store.specs.Named.{owner_of, records_of}
use Rattle.audit.specs.Tests.{any_below}
use Rattle.audit.proofs.Testing.{more, hit}
use Rattle.owners.specs.Owners.{ends_in, circles}
use Rattle.owners.specs.Tables.{UNKNOWN, entry, Long, Lengths, Followed}
use Rattle.owners.proofs.Tabling.{blank, known_set}

pub never : {A : Type 0} {b : Bool} → b ≡ true → b ≡ false → A
never e f = absurd (let z : ◌≡◌ {A = ℕ} 0 1 = cc in omega arith)

leb_suc : (a b : ℕ) → leb a b ≡ leb (suc a) (suc b)
leb_suc a b = by (leb a b) refl
  where
    by : (t : Bool) → leb a b ≡ t → t ≡ leb (suc a) (suc b)
    by true e = sym (le-leb (suc a) (suc b) (omega (arith, leb-true a b e)))
    by false e = sym (lt-leb (suc a) (suc b) (omega (arith, leb-false a b e)))

module _ (w : List ℕ) (r : ℕ) where
  -- a record without an owner
  pub long_end : owner_of w r ≡ NONE → Long w r 1
  unfolding ends_in
  long_end e = record { ends = go }
    where
      go : (f : ℕ) → ends_in f (owner_of w) r ≡ leb 1 f
      go zero = sym (lt-leb 1 0 (omega arith))
      go (suc f) = rw (eq-eqb (owner_of w r) NONE e) (sym (le-leb 1 (suc f) (omega arith)))

  pub one_more : (f : ℕ) → owner_of w r ≢ NONE → ends_in (suc f) (owner_of w) r ≡ ends_in f (owner_of w) (owner_of w r)
  unfolding ends_in
  one_more f d = rw (ne_eqb (owner_of w r) NONE d)

  pub none_yet : ends_in 0 (owner_of w) r ≡ false
  unfolding ends_in
  none_yet = refl

  -- one more than its owner's
  pub long_hop : (d : ℕ) → owner_of w r ≢ NONE → Long w (owner_of w r) d → Long w r (suc d)
  long_hop d n l = record { ends = go }
    where
      go : (f : ℕ) → ends_in f (owner_of w) r ≡ leb (suc d) f
      go zero = none_yet ∙ sym (lt-leb (suc d) 0 (omega arith))
      go (suc f) = one_more f n ∙ l.ends f ∙ leb_suc d f

  -- and its owner's is one less
  pub has_owner : (d : ℕ) → 1 < d → Long w r d → owner_of w r ≢ NONE
  unfolding ends_in
  has_owner d h l e =
      let a : ends_in 1 (owner_of w) r ≡ true = rw (eq-eqb (owner_of w r) NONE e) in
      never a (l.ends 1 ∙ lt-leb d 1 h)

  pub long_back : (d : ℕ) → Long w r (suc (suc d)) → Long w (owner_of w r) (suc d)
  long_back d l =
      let n = has_owner (suc (suc d)) (omega arith) l in
      record { ends = λ f. sym (one_more f n) ∙ l.ends (suc f) ∙ sym (leb_suc (suc d) f) }

-- after h owners from i the chain is at q
pub record Passing (w : List ℕ) (i q h : ℕ) : Type 0 where
  pub few : h ≤ RECORDS
  pub ends : (f : ℕ) → ends_in (h + f) (owner_of w) i ≡ ends_in f (owner_of w) q
  pub goes : (d : ℕ) → Long w q d → Long w i (h + d)

pub begun : (w : List ℕ) (i : ℕ) → Passing w i i 0
begun w i =
    record {
      few = omega arith;
      ends = λ f. ap (λ (n : ℕ). ends_in n (owner_of w) i) (omega arith);
      goes = λ d l. subst (Long w i) (omega arith) l;
    }

followed : (w : List ℕ) (i n : ℕ) → Long w i n → Followed w i n
followed w i n l = record { circle = ap not (l.ends RECORDS); long = λ _. l }

module _ {w : List ℕ} {i q h : ℕ} (g : Passing w i q h) where
  pub met : {ls : List ℕ} → Lengths w ls → (d : ℕ) → d ≡ entry ls q → (d ≡ UNKNOWN → ⊥) → Followed w i (h + d)
  met {ls} t d e k = followed w i (h + d) (g.goes d (subst (Long w q) (sym e) (t.known q (λ y. k (e ∙ y)))))

  pub ended : (o : ℕ) → o ≡ owner_of w q → o ≡ NONE → Followed w i (h + 1)
  ended o e k = followed w i (h + 1) (g.goes 1 (long_end w q (sym e ∙ k)))

  pub passed : (o : ℕ) → h < RECORDS → o ≡ owner_of w q → (o ≡ NONE → ⊥) → Passing w i o (h + 1)
  passed o l e k =
      let n : owner_of w q ≢ NONE = λ y. k (e ∙ y) in
      rw e
      (record {
        few = omega arith;
        ends = λ f. ap (λ (m : ℕ). ends_in m (owner_of w) i) (omega arith) ∙ g.ends (suc f) ∙ one_more w q f n;
        goes = λ d m. subst (Long w i) (omega arith) (g.goes (suc d) (long_hop w q d n m));
      })

  pub unended : RECORDS ≤ h → Followed w i (RECORDS + 1)
  unfolding ends_in
  unended l =
      let e : h + 0 ≡ RECORDS = omega (arith, g.few) in
      let a : ends_in RECORDS (owner_of w) i ≡ false = ap (λ (n : ℕ). ends_in n (owner_of w) i) (sym e) ∙ g.ends 0 in
      record { circle = ap not a; long = λ k. absurd (omega arith) }

-- the sum of a known length and the hops is a number
pub few_met : {w ls : List ℕ} → Lengths w ls → (q d h : ℕ) → h < RECORDS → d ≡ entry ls q → (d ≡ UNKNOWN → ⊥) → h + d < 2 ^ 64
few_met t q d h l e k =
    let f = t.few q (λ y. k (e ∙ y)) in
    omega (arith, e, f)

-- the chain from q has d owners to go
pub record Noting (w : List ℕ) (q d : ℕ) : Type 0 where
  pub few : d ≤ RECORDS
  pub ahead : 0 < d → Long w q d

pub noting : (w : List ℕ) (i n : ℕ) → Long w i n → n ≤ RECORDS → Noting w i n
noting w i n l h = record { few = h; ahead = λ _. l }

pub none_known : (w : List ℕ) → Lengths w (replicate RECORDS UNKNOWN)
none_known w = record { few = λ r k. absurd (k (blank RECORDS r)); known = λ r k. absurd (k (blank RECORDS r)) }

module _ {w : List ℕ} {q d : ℕ} (g : Noting w q d) (z : 0 < d) where
  pub noted : {ls : List ℕ} → Lengths w ls → (ls' : List ℕ) → ls' ≡ set ls q d → Lengths w ls'
  noted {ls} t ls' e =
      rw e
      (record {
        few = known_set (λ x y. y ≤ RECORDS) ls q d t.few g.few;
        known = known_set (Long w) ls q d t.known (g.ahead z);
      })

  -- n owners to go after this one
  pub noting_on : (n o : ℕ) → d ≡ n + 1 → o ≡ owner_of w q → Noting w o n
  noting_on n o s e = rw e (record { few = omega (arith, g.few); ahead = λ k. on n k (subst (Long w q) (s ∙ add-one n) (g.ahead z)) })
    where
      on : (m : ℕ) → 0 < m → Long w q (suc m) → Long w (owner_of w q) m
      on zero k l = absurd (omega arith)
      on (suc m) k l = long_back w q m l

-- the loop over the records
module _ {w : List ℕ} {i m : ℕ} (g : Followed w i m) where
  pub circle_hit : (n : ℕ) → i < n → n ≡ records_of w → RECORDS < m → true ≡ any_below (records_of w) (circles w)
  circle_hit n l e h = hit (circles w) (records_of w) n i true l e (sym (g.circle ∙ ap not (lt-leb m RECORDS h))) refl

  pub circle_more : any_below i (circles w) ≡ false → m ≤ RECORDS → any_below (i + 1) (circles w) ≡ false
  circle_more a h = more (circles w) i false a (sym (g.circle ∙ ap not (le-leb m RECORDS h))) refl

  pub followed_long : m ≤ RECORDS → Long w i m
  followed_long h = g.long h
