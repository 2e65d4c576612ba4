-- The loop of get_real_outrec: it stands at q, which still resolves to the same record, and each hop leaves fewer.
use Prim.Native.Nat.{ℕ, suc, ◌≤◌, ◌<◌}
use mathlib.Core.Path.{◌≡◌, ap, ◌∙◌, sym, subst}
use mathlib.Core.Logic.{◌≢◌}
use mathlib.Core.List.{List, [], ◌∷◌}
use native.Mathlib.Omega.{arith}
use lib.ListN.{length}
use Rattle.job.specs.Limits as limit
use Rattle.rings.specs.Links.{All}
use Rattle.store.specs.Field.{NONE, BLOCK}
use Rattle.store.specs.Words.{view}
use Rattle.store.specs.Named.{first_of, owner_of, rec_of, records_of, points_of}
use Rattle.joins.specs.Resolve.{get_real_outrec, home_of}
use Rattle.joins.specs.Paths.{Path, Resolves, Lives}
use Rattle.joins.specs.Resolved.{Ready}
use Rattle.joins.specs.Needs.{Resolving, Point}
use Rattle.joins.proofs.Resolving.{real_is, hops, hops_is, res_short, res_low}
use Rattle.joins.proofs.Homes.{home_of_lem}

-- resolving is a function of the words
pub real_res : (w : List ℕ) → Ready w → (r q : ℕ) → Resolves (view w) r q → get_real_outrec w r ≡ q
real_res w o r q z = real_is (first_of w) (owner_of w) limit.RECORDS r z.via q (records_of w) z.path z.some z.real z.low (omega (arith, o.resolved.few_records)) (omega (arith, res_short (view w) r q z, o.resolved.few_records))

pub record Going (w : List ℕ) (r q f : ℕ) : Type 0 where
  pub at : Resolving w q
  pub is : f ≡ first_of w q
  pub goal : get_real_outrec w r ≡ at.to

pub low : (w : List ℕ) (r : ℕ) → Resolving w r → r < limit.RECORDS
low w r z = omega (arith, res_low (view w) r z.to z.res, z.ready.resolved.few_records)

pub long : (w : List ℕ) (r : ℕ) → Resolving w r → BLOCK ≤ length w
long w r z = z.ready.long

pub begun : (w : List ℕ) (r f : ℕ) → Resolving w r → f ≡ first_of w r → Going w r r f
begun w r f z e = record { at = z; is = e; goal = real_res w z.ready r z.to z.res }

-- a record without points: its owner resolves to the same, by one hop less
hop : (first owner : ℕ → ℕ) (q t : ℕ) (l : List ℕ) → Path first owner q l t → first t ≢ NONE → first q ≡ NONE → (m : List ℕ) × (l ≡ q ∷ m) × Path first owner (owner q) m t
hop first owner q t [] p h e = absurd (h (ap first (sym p) ∙ e))
hop first owner q t (x ∷ l) p h e = (l, ap (λ (y : ℕ). y ∷ l) (sym p.0), subst (λ (y : ℕ). Path first owner (owner y) l t) (sym p.0) p.2)

module _ (w : List ℕ) (q p : ℕ) (z : Resolving w q) (e : first_of w q ≡ NONE) (d : p ≡ owner_of w q) where
  on : Resolves (view w) p z.to
  on =
      let h = hop (first_of w) (owner_of w) q z.to z.res.via z.res.path z.res.some e in
      let g : All (λ x. x < records_of w) (q ∷ h.0) = rw h.1 at z.res.low in
      rw d (record { via = h.0; path = h.2; low = g.1; real = z.res.real; some = z.res.some })

  fewer : hops (first_of w) (owner_of w) limit.RECORDS p < hops (first_of w) (owner_of w) limit.RECORDS q
  fewer =
      let h = hop (first_of w) (owner_of w) q z.to z.res.via z.res.path z.res.some e in
      let s = res_short (view w) q z.to z.res in
      let k : records_of w ≤ limit.RECORDS = z.ready.resolved.few_records in
      let a = hops_is (first_of w) (owner_of w) limit.RECORDS q z.res.via z.to z.res.path z.res.some (omega arith) in
      let n : length z.res.via ≡ suc (length h.0) = ap length h.1 in
      let b = hops_is (first_of w) (owner_of w) limit.RECORDS (owner_of w q) h.0 z.to h.2 z.res.some (omega arith) in
      rw d (omega arith)

module _ (w : List ℕ) (r q f p : ℕ) (g : Going w r q f) (e : f ≡ NONE) (d : p ≡ owner_of w q) where
  next : Resolving w p
  next = record { ready = g.at.ready; to = g.at.to; res = on w q p g.at (sym g.is ∙ e) d }

  pub next_low : p < limit.RECORDS
  next_low = low w p next

  pub again : (h : ℕ) → h ≡ first_of w p → Going w r p h
  unfolding next
  again h i = record { at = next; is = i; goal = g.goal }

  pub falls : hops (first_of w) (owner_of w) limit.RECORDS p < hops (first_of w) (owner_of w) limit.RECORDS q
  falls = fewer w q p g.at (sym g.is ∙ e) d

pub going_low : (w : List ℕ) (r q f : ℕ) → Going w r q f → q < limit.RECORDS
going_low w r q f g = low w q g.at

pub done : (w : List ℕ) (r q f : ℕ) → Going w r q f → f ≢ NONE → q ≡ get_real_outrec w r
done w r q f g e = go g.at.res.via g.at.res.path
  where
    go : (l : List ℕ) → Path (first_of w) (owner_of w) q l g.at.to → q ≡ get_real_outrec w r
    go [] p = p ∙ sym g.goal
    go (x ∷ l) p = absurd (e (g.is ∙ ap (first_of w) p.0 ∙ p.1))

-- ---- the record of a point

pub point_low : (w : List ℕ) (p : ℕ) → Point w p → p < limit.POINTS
point_low w p t = omega (arith, t.low, t.ready.resolved.few_points)

pub point_long : (w : List ℕ) (p : ℕ) → Point w p → BLOCK ≤ length w
point_long w p t = t.ready.long

pub point_res : (w : List ℕ) (p r : ℕ) → Point w p → r ≡ rec_of w p → Resolving w r
point_res w p r t e =
    let z = home_of_lem (view w) t.ready.resolved p t.low in
    rw e (record { ready = t.ready; to = z.0; res = z.1.res })

pub point_home : (w : List ℕ) (p r q : ℕ) → r ≡ rec_of w p → q ≡ get_real_outrec w r → q ≡ home_of w p
point_home w p r q e f = cc

pub at_home : (w : List ℕ) → Ready w → (k i : ℕ) → k < points_of w → i ≡ home_of w k → Lives (view w) i k
at_home w o k i h f =
    let z = home_of_lem (view w) o.resolved k h in
    let q : get_real_outrec w (rec_of w k) ≡ z.0 = real_res w o (rec_of w k) z.0 z.1.res in
    rw (f, q) z.1
