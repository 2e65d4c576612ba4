-- How the record that a record resolves to is reached, hop by hop, and written down along the chain.
use mathlib.Core.Path.{◌≡◌, refl, sym, ap, ◌∙◌}
use mathlib.Core.Bool.{Bool, true, false, not}
use mathlib.Core.List.{List}
use Prim.Native.Nat.{ℕ, zero, suc, ◌+◌, ◌-◌, ◌<◌, ◌≤◌}
use native.Mathlib.Decide.{ℕ_discrete}
use native.Mathlib.Omega.{arith}
use lib.ListN.{length, set, replicate, length-replicate}
use borrow.Author.Tests.{eq-eqb, ne_eqb, not-false}
use Rattle.job.specs.Limits.{RECORDS}
use Rattle.store.specs.Field.{NONE}
use Rattle.store.specs.Named.{first_of, owner_of, records_of}
use Rattle.audit.specs.Tests.{any_below}
use Rattle.audit.proofs.Saying.{none_of}
use Rattle.owners.specs.Owners.{ends_in, circles}
use Rattle.joins.specs.Resolve.{find_in, get_real_outrec}
use Rattle.owners.specs.Tables.{UNKNOWN, entry, Homes, Noted, Found}
use Rattle.visits.proofs.Chains.{ends_on, ends_over, here, nowhere, hop}
use Rattle.owners.proofs.Tabling.{blank, known_set, right_set, right_here}

never : {A : Type 0} {b : Bool} → b ≡ true → b ≡ false → A
never e f = absurd (let z : ◌≡◌ {A = ℕ} 0 1 = cc in omega arith)

-- along a chain that ends within f owners, g records find what f do
module _ (first owner : ℕ → ℕ) where
  still : (f g r : ℕ) → ends_in f owner r ≡ true → f ≤ g → find_in g first owner r ≡ find_in f first owner r
  unfolding ends_in find_in
  still zero g r e l = never e refl
  still (suc f) zero r e l = absurd (omega arith)
  still (suc f) (suc g) r e l = by (ℕ_discrete (owner r) NONE) (λ a. still f g (owner r) a (omega arith))
    where
      by : Dec (owner r ≡ NONE) → (ends_in f owner (owner r) ≡ true → find_in g first owner (owner r) ≡ find_in f first owner (owner r)) → find_in (suc g) first owner r ≡ find_in (suc f) first owner r
      by (yes n) s = rw (eq-eqb (owner r) NONE n)
      by (no n) s =
          let a : ends_in f owner (owner r) ≡ true = rw (ne_eqb (owner r) NONE n) at e in
          rw (s a)

-- on the way from r to what it resolves to, at q; the chain ends within left owners
pub record Toward (w : List ℕ) (r q left : ℕ) : Type 0 where
  pub few : left ≤ RECORDS
  pub ends : ends_in left (owner_of w) q ≡ true
  pub same : get_real_outrec w q ≡ get_real_outrec w r

pub toward : (w : List ℕ) (r : ℕ) → circles w r ≡ false → Toward w r r RECORDS
toward w r e = record { few = omega arith; ends = not-false (ends_in RECORDS (owner_of w) r) e; same = refl }

module _ {w : List ℕ} {r q left : ℕ} (g : Toward w r q left) where
  pub known_home : {hs : List ℕ} → Homes w hs → (h : ℕ) → h ≡ entry hs q → (h ≡ UNKNOWN → ⊥) → h ≡ get_real_outrec w r
  known_home t h e k = e ∙ t.known q (λ y. k (e ∙ y)) ∙ g.same

  pub spent_home : left ≤ 0 → NONE ≡ get_real_outrec w r
  spent_home l = never refl (ends_over (owner_of w) q false left l (ap not g.ends))

  module _ (a : ℕ) (d : a ≡ first_of w q) where
    pub own_home : (a ≡ NONE → ⊥) → q ≡ get_real_outrec w r
    own_home k = here (first_of w) (owner_of w) q (get_real_outrec w r) RECORDS a (omega arith) d k g.same

    module _ (k : a ≡ NONE) (o : ℕ) (e : o ≡ owner_of w q) where
      pub no_home : o ≡ NONE → NONE ≡ get_real_outrec w r
      no_home n = nowhere (first_of w) (owner_of w) q (get_real_outrec w r) RECORDS a o (omega arith) d k e n g.same

      toward_less : 0 < left → (o ≡ NONE → ⊥) → Toward w r o (left - 1)
      toward_less z n =
          let s : ends_in (left - 1) (owner_of w) o ≡ true = not-false (ends_in (left - 1) (owner_of w) o) (ends_on (owner_of w) q false left o z e n (ap not g.ends)) in
          let x : get_real_outrec w o ≡ find_in (left - 1) (first_of w) (owner_of w) o = still (first_of w) (owner_of w) (left - 1) RECORDS o s (omega (arith, g.few)) in
          let y : find_in 511 (first_of w) (owner_of w) o ≡ find_in (left - 1) (first_of w) (owner_of w) o = still (first_of w) (owner_of w) (left - 1) 511 o s (omega (arith, g.few)) in
          let v : find_in 511 (first_of w) (owner_of w) o ≡ get_real_outrec w r = hop (first_of w) (owner_of w) q (get_real_outrec w r) RECORDS 511 a o (omega arith) d k e n g.same in
          record { few = omega (arith, g.few); ends = s; same = x ∙ sym y ∙ v }

      -- m records to go after this one
      pub toward_on : (m : ℕ) → 0 < left → m ≡ left - 1 → (o ≡ NONE → ⊥) → Toward w r o m
      toward_on m z l n = rw l (toward_less z n)

-- the same while r's home is written down: hs₀ is the table before, hs the table now
pub record Along (w : List ℕ) (r : ℕ) (hs₀ : List ℕ) (q left : ℕ) (hs : List ℕ) : Type 0 where
  pub way : Toward w r q left
  pub homes : Homes w hs
  pub kept : (x : ℕ) → entry hs₀ x ≡ get_real_outrec w x → entry hs x ≡ get_real_outrec w x
  pub here : (q ≡ r → ⊥) → r < length hs₀ → entry hs r ≡ get_real_outrec w r

pub along : {w hs : List ℕ} → Homes w hs → (r : ℕ) → circles w r ≡ false → Along w r hs r RECORDS hs
along {w} {hs} t r e = record { way = toward w r e; homes = t; kept = λ x y. y; here = λ n. absurd (n refl) }

module _ {w : List ℕ} {r : ℕ} {hs₀ : List ℕ} {q left : ℕ} {hs : List ℕ} (g : Along w r hs₀ q left hs) where
  -- a record that is known
  pub known_along : (k : ℕ) → k ≡ entry hs q → (k ≡ UNKNOWN → ⊥) → Noted w hs₀ r hs
  known_along k e n = record { homes = g.homes; kept = g.kept; here = λ l. by (ℕ_discrete q r) l }
    where
      by : Dec (q ≡ r) → r < length hs₀ → entry hs r ≡ get_real_outrec w r
      by (yes d) l = rw (← d) (g.homes.known q (λ y. n (e ∙ y)))
      by (no d) l = g.here d l

  pub spent_along : left ≤ 0 → Noted w hs₀ r hs
  spent_along l = never refl (ends_over (owner_of w) q false left l (ap not g.way.ends))

  -- a record that is not
  module _ (h : ℕ) (e : h ≡ get_real_outrec w r) (hs' : List ℕ) (d : hs' ≡ set hs q h) (s : length hs ≡ length hs₀) where
    pub put_along : Noted w hs₀ r hs'
    put_along =
        let v : h ≡ get_real_outrec w q = e ∙ sym g.way.same in
        rw d
        (record {
          homes = record { known = known_set (λ x y. y ≡ get_real_outrec w x) hs q h g.homes.known v };
          kept = λ x y. right_set (get_real_outrec w) hs q h v x (g.kept x y);
          here = λ l. by (ℕ_discrete q r) v l;
        })
      where
        by : Dec (q ≡ r) → h ≡ get_real_outrec w q → r < length hs₀ → entry (set hs q h) r ≡ get_real_outrec w r
        by (yes k) v l = rw (← k) (right_here (get_real_outrec w) hs q h v (rw (k, s) l))
        by (no k) v l = right_set (get_real_outrec w) hs q h v r (g.here k l)

    pub on_along : (a : ℕ) → a ≡ first_of w q → a ≡ NONE → (o : ℕ) → o ≡ owner_of w q → (m : ℕ) → 0 < left → m ≡ left - 1 → (o ≡ NONE → ⊥) → Along w r hs₀ o m hs'
    on_along a b k o c m z l n =
        let t = put_along in
        record { way = toward_on g.way a b k o c m z l n; homes = t.homes; kept = t.kept; here = λ _ l. t.here l }

pub homes_blank : (w hs : List ℕ) (n : ℕ) → hs ≡ replicate n UNKNOWN → Homes w hs
homes_blank w hs n e = rw e (record { known = λ r k. absurd (k (blank n r)) })

pub none_found : (w hs : List ℕ) → hs ≡ replicate RECORDS UNKNOWN → Found w hs 0
none_found w hs e = record { homes = homes_blank w hs RECORDS e; each = λ r h. absurd (omega arith) }

module _ {w hs₀ hs : List ℕ} {i : ℕ} (g : Found w hs i) (b : hs₀ ≡ replicate RECORDS UNKNOWN) (s : length hs ≡ length hs₀) where
  pub more_found : {hs' : List ℕ} → Noted w hs i hs' → (n : ℕ) → i < n → n ≡ records_of w → records_of w ≤ RECORDS → Found w hs' (i + 1)
  more_found {hs'} t n l e f = record { homes = t.homes; each = λ r h. by r h (ℕ_discrete r i) }
    where
      long : length hs ≡ RECORDS
      long = s ∙ ap length b ∙ length-replicate {A = ℕ} RECORDS UNKNOWN

      by : (r : ℕ) → r < i + 1 → Dec (r ≡ i) → entry hs' r ≡ get_real_outrec w r
      by r h (yes d) = rw d (t.here (omega (arith, long)))
      by r h (no d) = t.kept r (g.each r (omega (arith, d)))

pub all_found : {w hs : List ℕ} {i : ℕ} → Found w hs i → (n : ℕ) → n ≤ i → n ≡ records_of w → Found w hs (records_of w)
all_found g n l e = record { homes = g.homes; each = λ r h. g.each r (omega arith) }

pub by_table : {w hs : List ℕ} → Homes w hs → (r h : ℕ) → h ≡ entry hs r → (h ≡ UNKNOWN → ⊥) → h ≡ get_real_outrec w r
by_table t r h e k = e ∙ t.known r (λ y. k (e ∙ y))

pub no_circle : (w : List ℕ) (n i : ℕ) → any_below (records_of w) (circles w) ≡ false → i < n → n ≡ records_of w → circles w i ≡ false
no_circle w n i a l e = none_of (records_of w) (circles w) a i (omega arith)
