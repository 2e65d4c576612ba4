-- Joins of renumbered points on alike words: the same answer, and alike words.
use Prim.Native.Nat.{ℕ, zero, suc, ◌+◌, ◌*◌, ◌≤◌, ◌<◌}
use mathlib.Core.Path.{◌≡◌, refl, ap, ◌∙◌, sym, subst}
use mathlib.Core.Logic.{◌≢◌, ◌⊎◌, inl, inr}
use mathlib.Core.Bool.{Bool, true, false, cond}
use mathlib.Core.List.{List, ◌++◌, map}
use native.Mathlib.Omega.{arith}
use native.Mathlib.Decide.{ℕ_discrete, dec_lt}
use lib.Dec.{eqb, ltb}
use lib.ListN.{length, get_or}
use borrow.Author.Tests.{eq-eqb, ne_eqb, eqb-true, eqb-false, lt-ltb, le-ltb, ltb-true}
use Rattle.std.proofs.Common.{Result, Ok, Err}
use Rattle.rings.specs.Count.{occ}
use Rattle.rings.specs.Links.{All}
use Rattle.rings.proofs.Counting.{all_in}
use Rattle.job.specs.Limits as limit
use Rattle.store.specs.Field.{Field, pt, rc, ct, X, Y, Z, NEXT, PREV, REC, FLAGS, OWNER, FIRST, POINTS, RECORDS, BLOCK, same}
use Rattle.store.specs.Words.{Store, view, Write, on_words}
use Rattle.store.specs.Stores.{on_store}
use Rattle.store.specs.Named.{next_of, prev_of, rec_of, first_of, points_of, records_of}
use Rattle.store.specs.Sound.{pts, recs, ring_at}
use Rattle.store.proofs.Storing.{view_writes}
use Rattle.joins.specs.declared.JoinError.{JoinError}
use Rattle.joins.specs.declared.JoinError.TheVariants.{Knot, Full}
use Rattle.joins.specs.Resolve.{home_of}
use Rattle.joins.specs.Join.{JoinEnd, end, relink_writes, made_writes, empty_writes, first_writes, relink_of, new_out_rec, name_all, fix_outrec_pts, move_first, split_ring, split_of, merge_of, by_records, join_of, follow, joins_from, process_horz_joins}
use Rattle.joins.specs.Needs.{Points, Ringed, Unknotted, Joins}
use Rattle.joins.proofs.Homes.{first_lives}
use Rattle.joins.proofs.Resolving.{res_low}
use Rattle.joins.proofs.Renaming.{ring_is}
use Rattle.joins.proofs.Naming.{name_length, name_col, name_in, name_out}
use Rattle.joins.proofs.Cases.{four, low_one, low_two, parts, new_ring}
use Rattle.joins.proofs.Turns.{points_pair, pair_same, join_kept}
use Rattle.joins.proofs.Turns as turns
use Rattle.drawing.specs.Renumbered.{Renumbered, RenumberedList}
use Rattle.drawing.proofs.Writing.{compared, never, RenumberedWrites, AmongWrites}
use Rattle.drawing.proofs.Likeness.{tells_apart, none, alike_words, StillCompared, alike_still}
use Rattle.drawing.proofs.Rings.{occ_map, ring_alike, next_in, homes_alike}

abbrev answer_of : JoinEnd → Result (Unit {0}) JoinError
answer_of (end r w) = r

-- the same answer, and alike words
pub record SameJoinEnd (ρ : ℕ → ℕ) (e e' : JoinEnd) : Type 0 where
  pub answer : answer_of e' ≡ answer_of e
  pub words : Renumbered ρ (view (turns.words e)) (view (turns.words e'))

-- ---- two records

module _ {ρ : ℕ → ℕ} (w w' : List ℕ) (al : Renumbered ρ (view w) (view w')) (a c : ℕ) where
  links_renumbered : (xs ys : List Write) → a < points_of w → c < points_of w → RenumberedWrites ρ xs ys → RenumberedWrites ρ (relink_writes (view w) a c ++ xs) (relink_writes (view w') (ρ a) (ρ c) ++ ys)
  links_renumbered xs ys ha hc r =
      ((refl, refl, refl), ((refl, refl, refl), ((refl, al.nexts a ha, al.prevs c hc), ((refl, al.prevs c hc, al.nexts a ha), r))))

  pub merge_alike : (i j : ℕ) → Unknotted w a c i j → Unknotted w' (ρ a) (ρ c) i j → Renumbered ρ (view (merge_of w a c i j)) (view (merge_of w' (ρ a) (ρ c) i j))
  unfolding merge_of relink_of
  merge_alike i j t t' =
      let f = four w a c i j t in
      let f' = four w' (ρ a) (ρ c) i j t' in
      let b = low_two w a c i j t in
      alike_words w w' al
      (relink_writes (view w) a c ++ empty_writes j i)
      (relink_writes (view w') (ρ a) (ρ c) ++ empty_writes j i)
      t.ready.long t'.ready.long
      (f.one, (f.two, (f.next, (f.prev, (b, (b, (b, (b, tt))))))))
      (f'.one, (f'.two, (f'.next, (f'.prev, (b, (b, (b, (b, tt))))))))
      (links_renumbered (empty_writes j i) (empty_writes j i) t.one.bound t.two.bound ((refl, refl, sym (none al t.ready.resolved.few_points)), ((refl, refl, refl), ((refl, refl, tt), ((refl, refl, tt), tt)))))
      (record { more = omega arith; points = λ k h. inl h; records = λ k h. inl h })

-- ---- one record

rec_out : (f : Field) → compared f ≡ true → same (pt REC) f ≡ false
rec_out (pt X) e = refl
rec_out (pt Y) e = refl
rec_out (pt NEXT) e = refl
rec_out (pt PREV) e = refl
rec_out (pt REC) e = never e
rec_out (pt Z) e = refl
rec_out (rc f) e = refl
rec_out (ct f) e = refl

-- the points of a list name k: whether m does, if it did not before
name_test : (k : ℕ) (w l : List ℕ) (m : ℕ) → BLOCK ≤ length w → All (λ x. x < limit.POINTS) l → occ m l ≤ 1 → rec_of w m ≢ k → eqb (rec_of (name_all w k l) m) k ≡ ltb 0 (occ m l)
name_test k w l m long h o d = go (dec_lt 0 (occ m l))
  where
    go : Dec (0 < occ m l) → eqb (rec_of (name_all w k l) m) k ≡ ltb 0 (occ m l)
    go (yes y) = eq-eqb _ k (name_in k m w l long h o y) ∙ sym (lt-ltb 0 (occ m l) y)
    go (no y) = ne_eqb _ k (λ e. d (sym (name_out k m w l long h (omega arith)) ∙ e)) ∙ sym (le-ltb 0 (occ m l) (omega arith))

-- one side of a split
module _ (w : List ℕ) (a c i k : ℕ) (t : Unknotted w a c i i) (kn : k ≡ records_of w) (kf : k < limit.RECORDS) where
  abbrev splits : List Write
  splits = relink_writes (view w) a c ++ made_writes k (next_of w a) i

  abbrev halved : List ℕ
  halved = new_out_rec (relink_of w a c) k (next_of w a) i

  abbrev named : List ℕ
  named = fix_outrec_pts halved k

  ringed : Ringed halved k
  ringed = new_ring w a c i k t kn kf (parts w a c i t)

  halved_view : view halved ≡ on_store (view w) splits
  unfolding new_out_rec relink_of
  halved_view =
      let f = four w a c i i t in
      view_writes w splits t.ready.long (f.one, (f.two, (f.next, (f.prev, (omega arith, (kf, (kf, (kf, tt))))))))

  ring_low : All (λ x. x < limit.POINTS) (ring_at (view halved) k)
  ring_low = all_in (λ x. x < limit.POINTS) (ring_at (view halved) k) (λ x h. ringed.whole.below x (rw (ring_is halved k ringed) at h))

  ring_once : (m : ℕ) → occ m (ring_at (view halved) k) ≤ 1
  ring_once m = rw (ring_is halved k ringed) (ringed.whole.once m)

  named_still : StillCompared (view halved) (view named)
  unfolding fix_outrec_pts
  named_still = record { counts = λ f j e. name_col k f j (rec_out f e) halved (ring_at (view halved) k) ringed.long ring_low }

  named_long : BLOCK ≤ length named
  unfolding fix_outrec_pts
  named_long = omega (arith, ringed.long, name_length k halved (ring_at (view halved) k))

  own_first : first_of named i ≡ first_of w i
  own_first = named_still.counts (rc FIRST) i refl ∙ ap (λ (s : Store). s (rc FIRST) i) halved_view ∙ rw (ne_eqb i k (λ e. omega (arith, t.one.res.real)))

  -- the first point of record i went to the new ring
  went : eqb (rec_of named (first_of named i)) k ≡ ltb 0 (occ (first_of named i) (ring_at (view halved) k))
  unfolding fix_outrec_pts
  went =
      let z = first_lives (view w) t.ready.resolved i t.one.res.real t.one.res.some in
      let l : rec_of w (first_of w i) < records_of w = res_low (view w) (rec_of w (first_of w i)) i z.res in
      let e : rec_of halved (first_of named i) ≡ rec_of w (first_of w i) = ap (λ (s : Store). s (pt REC) (first_of named i)) halved_view ∙ ap (rec_of w) own_first in
      name_test k halved (ring_at (view halved) k) (first_of named i) ringed.long ring_low (ring_once (first_of named i)) (λ d. omega (arith, e, l, kn))

  -- links stay among the points
  next_stays : (m : ℕ) → m < pts (view halved) → next_of halved m < pts (view halved)
  next_stays = subst (λ (s : Store). (m : ℕ) → m < pts s → s (pt NEXT) m < pts s) (sym halved_view) go
    where
      go : (m : ℕ) → m < points_of w → on_store (view w) splits (pt NEXT) m < points_of w
      go m h = pick (eqb m (prev_of w c)) (eqb m a)
        where
          pick : (x y : Bool) → cond x (next_of w a) (cond y c (next_of w m)) < points_of w
          pick true y = next_in (view w) t.ready.resolved a t.one.bound
          pick false true = t.two.bound
          pick false false = next_in (view w) t.ready.resolved m h

  new_low : first_of halved k < pts (view halved)
  new_low = subst (λ (s : Store). s (rc FIRST) k < pts s) (sym halved_view) (rw (eq-eqb k k refl) (next_in (view w) t.ready.resolved a t.one.bound))

module _ {ρ : ℕ → ℕ} (w w' : List ℕ) (al : Renumbered ρ (view w) (view w')) (a c i k : ℕ) (t : Unknotted w a c i i) (t' : Unknotted w' (ρ a) (ρ c) i i) (kn : k ≡ records_of w) (kf : k < limit.RECORDS) where
  kn' : k ≡ records_of w'
  kn' = kn ∙ sym al.records

  halved_alike : Renumbered ρ (view (halved w a c i k t kn kf)) (view (halved w' (ρ a) (ρ c) i k t' kn' kf))
  unfolding new_out_rec relink_of
  halved_alike =
      let f = four w a c i i t in
      let f' = four w' (ρ a) (ρ c) i i t' in
      alike_words w w' al (splits w a c i k t kn kf) (splits w' (ρ a) (ρ c) i k t' kn' kf) t.ready.long t'.ready.long
      (f.one, (f.two, (f.next, (f.prev, (omega arith, (kf, (kf, (kf, tt))))))))
      (f'.one, (f'.two, (f'.next, (f'.prev, (omega arith, (kf, (kf, (kf, tt))))))))
      (links_renumbered w w' al a c (made_writes k (next_of w a) i) (made_writes k (next_of w' (ρ a)) i) t.one.bound t.two.bound ((refl, refl, refl), ((refl, refl, refl), ((refl, refl, al.nexts a t.one.bound), ((refl, refl, refl), tt)))))
      (record { more = omega arith; points = λ m h. inl h; records = λ m h. old m h (ℕ_discrete m k) })
    where
      old : (m : ℕ) → m < k + 1 → Dec (m ≡ k) → (m < records_of w) ⊎ (AmongWrites (splits w a c i k t kn kf) (rc FLAGS) m × AmongWrites (splits w a c i k t kn kf) (rc OWNER) m × AmongWrites (splits w a c i k t kn kf) (rc FIRST) m)
      old m h (yes e) = inr (inr (inr (inr (inr (inr (inl (refl, e)))))), inr (inr (inr (inr (inr (inr (inr (inl (refl, e)))))))), inr (inr (inr (inr (inr (inr (inl (refl, e))))))))
      old m h (no d) = inl (omega arith)

  named_alike : Renumbered ρ (view (named w a c i k t kn kf)) (view (named w' (ρ a) (ρ c) i k t' kn' kf))
  named_alike = alike_still (view (named w a c i k t kn kf)) (view (named w' (ρ a) (ρ c) i k t' kn' kf)) (named_still w a c i k t kn kf) (named_still w' (ρ a) (ρ c) i k t' kn' kf) halved_alike

  recs_halved : recs (view (halved w a c i k t kn kf)) ≡ k + 1
  recs_halved = ap (λ (s : Store). recs s) (halved_view w a c i k t kn kf)

  pts_halved : pts (view (halved w a c i k t kn kf)) ≡ points_of w
  pts_halved = ap (λ (s : Store). pts s) (halved_view w a c i k t kn kf)

  ring_new : ring_at (view (halved w' (ρ a) (ρ c) i k t' kn' kf)) k ≡ map ρ (ring_at (view (halved w a c i k t kn kf)) k)
  ring_new = ring_alike halved_alike (omega (arith, pts_halved, t.ready.resolved.few_points)) (next_stays w a c i k t kn kf) k (omega (arith, recs_halved)) (λ d. new_low w a c i k t kn kf)

  first_new : first_of (named w' (ρ a) (ρ c) i k t' kn' kf) i ≡ ρ (first_of (named w a c i k t kn kf) i)
  first_new = named_alike.firsts i (omega (arith, recs_halved, t.one.res.real, (named_still w a c i k t kn kf).counts (ct RECORDS) 0 refl))

  went_alike : eqb (rec_of (named w' (ρ a) (ρ c) i k t' kn' kf) (first_of (named w' (ρ a) (ρ c) i k t' kn' kf) i)) k ≡ eqb (rec_of (named w a c i k t kn kf) (first_of (named w a c i k t kn kf) i)) k
  went_alike =
      went w' (ρ a) (ρ c) i k t' kn' kf
      ∙ ap (λ (l : List ℕ). ltb 0 (occ (first_of (named w' (ρ a) (ρ c) i k t' kn' kf) i) l)) ring_new
      ∙ ap (λ (m : ℕ). ltb 0 (occ m (map ρ (ring_at (view (halved w a c i k t kn kf)) k)))) first_new
      ∙ ap (ltb 0) (occ_map ρ (tells_apart al) (first_of (named w a c i k t kn kf) i) (ring_at (view (halved w a c i k t kn kf)) k))
      ∙ sym (went w a c i k t kn kf)

  pub split_ring_alike : Renumbered ρ (view (split_ring w a c i k)) (view (split_ring w' (ρ a) (ρ c) i k))
  unfolding split_ring move_first
  split_ring_alike = rw went_alike (go (eqb (rec_of (named w a c i k t kn kf) (first_of (named w a c i k t kn kf) i)) k))
    where
      go : (b : Bool) → Renumbered ρ (view (cond b (on_words (named w a c i k t kn kf) (first_writes i a)) (named w a c i k t kn kf)))
          (view (cond b (on_words (named w' (ρ a) (ρ c) i k t' kn' kf) (first_writes i (ρ a))) (named w' (ρ a) (ρ c) i k t' kn' kf)))
      go true =
          alike_words (named w a c i k t kn kf) (named w' (ρ a) (ρ c) i k t' kn' kf) named_alike (first_writes i a) (first_writes i (ρ a))
          (named_long w a c i k t kn kf) (named_long w' (ρ a) (ρ c) i k t' kn' kf)
          (low_one w a c i i t, ((four w a c i i t).one, tt)) (low_one w' (ρ a) (ρ c) i i t', ((four w' (ρ a) (ρ c) i i t').one, tt))
          ((refl, refl, refl), ((refl, refl, tt), tt))
          (record { more = omega arith; points = λ m h. inl h; records = λ m h. inl h })
      go false = named_alike

-- ---- a join

module _ {ρ : ℕ → ℕ} (w w' : List ℕ) (al : Renumbered ρ (view w) (view w')) (a c : ℕ) where
  split_alike : (i : ℕ) → Unknotted w a c i i → Unknotted w' (ρ a) (ρ c) i i → SameJoinEnd ρ (split_of w a c i) (split_of w' (ρ a) (ρ c) i)
  unfolding split_of
  split_alike i t t' = rw al.records (go (ltb (records_of w) limit.RECORDS) refl)
    where
      go : (b : Bool) → ltb (records_of w) limit.RECORDS ≡ b → SameJoinEnd ρ (cond b (end (Ok tt) (split_ring w a c i (records_of w))) (end (Err Full) w)) (cond b (end (Ok tt) (split_ring w' (ρ a) (ρ c) i (records_of w))) (end (Err Full) w'))
      go true e = record { answer = refl; words = split_ring_alike w w' al a c i (records_of w) t t' refl (ltb-true _ _ e) }
      go false e = record { answer = refl; words = al }

  by_alike : (i j : ℕ) → Unknotted w a c i j → Unknotted w' (ρ a) (ρ c) i j → SameJoinEnd ρ (by_records w a c i j) (by_records w' (ρ a) (ρ c) i j)
  unfolding by_records
  by_alike i j t t' = go (eqb i j) refl
    where
      go : (b : Bool) → eqb i j ≡ b → SameJoinEnd ρ (cond b (split_of w a c i) (end (Ok tt) (merge_of w a c i j))) (cond b (split_of w' (ρ a) (ρ c) i) (end (Ok tt) (merge_of w' (ρ a) (ρ c) i j)))
      go true e = split_alike i (pair_same w a c i j t (eqb-true i j e)) (pair_same w' (ρ a) (ρ c) i j t' (eqb-true i j e))
      go false e = record { answer = refl; words = merge_alike w w' al a c i j t t' }

  pub join_alike : Points w a c → Points w' (ρ a) (ρ c) → SameJoinEnd ρ (join_of w a c) (join_of w' (ρ a) (ρ c))
  unfolding join_of
  join_alike p p' =
      let e : next_of w' (ρ a) ≡ ρ (next_of w a) = al.nexts a p.one in
      let d : home_of w' (ρ a) ≡ home_of w a = homes_alike w w' al p.ready p'.ready a p.one in
      let f : home_of w' (ρ c) ≡ home_of w c = homes_alike w w' al p.ready p'.ready c p.two in
      rw (e, d, f, tells_apart al (next_of w a) c) (go e d f (eqb (next_of w a) c) refl)
    where
      go : next_of w' (ρ a) ≡ ρ (next_of w a) → home_of w' (ρ a) ≡ home_of w a → home_of w' (ρ c) ≡ home_of w c → (b : Bool) → eqb (next_of w a) c ≡ b
          → SameJoinEnd ρ (cond b (end (Err Knot) w) (by_records w a c (home_of w a) (home_of w c))) (cond b (end (Err Knot) w') (by_records w' (ρ a) (ρ c) (home_of w a) (home_of w c)))
      go e d f true z = record { answer = refl; words = al }
      go e d f false z =
          by_alike (home_of w a) (home_of w c)
          (points_pair w a c p (next_of w a) (home_of w a) (home_of w c) refl (eqb-false _ _ z) refl refl)
          (points_pair w' (ρ a) (ρ c) p' (next_of w' (ρ a)) (home_of w a) (home_of w c) refl (eqb-false _ _ (ap (λ (x : ℕ). eqb x (ρ c)) e ∙ tells_apart al (next_of w a) c ∙ z)) (sym d) (sym f))

-- ---- the list of joins

follow_alike : {ρ : ℕ → ℕ} (g g' : List ℕ → JoinEnd) (e e' : JoinEnd) → SameJoinEnd ρ e e'
    → (Renumbered ρ (view (turns.words e)) (view (turns.words e')) → SameJoinEnd ρ (g (turns.words e)) (g' (turns.words e'))) → SameJoinEnd ρ (follow g e) (follow g' e')
follow_alike g g' (end (Ok _) w) (end (Ok _) w') s f = f s.words
follow_alike g g' (end (Ok _) w) (end (Err Knot) w') s f = let z : ◌≡◌ {A = ℕ} 0 1 = cc in absurd (omega arith)
follow_alike g g' (end (Ok _) w) (end (Err Full) w') s f = let z : ◌≡◌ {A = ℕ} 0 1 = cc in absurd (omega arith)
follow_alike g g' (end (Err Knot) w) (end (Ok _) w') s f = let z : ◌≡◌ {A = ℕ} 0 1 = cc in absurd (omega arith)
follow_alike g g' (end (Err Knot) w) (end (Err Knot) w') s f = s
follow_alike g g' (end (Err Knot) w) (end (Err Full) w') s f = let z : ◌≡◌ {A = ℕ} 0 1 = cc in absurd (omega arith)
follow_alike g g' (end (Err Full) w) (end (Ok _) w') s f = let z : ◌≡◌ {A = ℕ} 0 1 = cc in absurd (omega arith)
follow_alike g g' (end (Err Full) w) (end (Err Knot) w') s f = let z : ◌≡◌ {A = ℕ} 0 1 = cc in absurd (omega arith)
follow_alike g g' (end (Err Full) w) (end (Err Full) w') s f = s

joins_on : (w x : List ℕ) (n : ℕ) (js : List ℕ) → Joins w n js → turns.Still w x → Joins x n js
joins_on w x n js t s = record { ready = s.ready; fits = t.fits; points = λ j l. rw s.points (t.points j l) }

list_alike : {ρ : ℕ → ℕ} (f i n : ℕ) (js js' w w' : List ℕ) → RenumberedList ρ (2 * n) js js' → i + f ≡ n → Joins w n js → Joins w' n js' → Renumbered ρ (view w) (view w') → SameJoinEnd ρ (joins_from f i js w) (joins_from f i js' w')
unfolding joins_from
list_alike zero i n js js' w w' l e t t' al = record { answer = refl; words = al }
list_alike {ρ} (suc f) i n js js' w w' l e t t' al =
    let x = get_or js (2 * i) 0 in
    let y = get_or js (2 * i + 1) 0 in
    let p : Points w x y = record { ready = t.ready; one = t.points (2 * i) (omega arith); two = t.points (2 * i + 1) (omega arith) } in
    let q : Points w' (ρ x) (ρ y) = record { ready = t'.ready; one = rw (← (l (2 * i) (omega arith))) (t'.points (2 * i) (omega arith)); two = rw (← (l (2 * i + 1) (omega arith))) (t'.points (2 * i + 1) (omega arith)) } in
    rw (l (2 * i) (omega arith), l (2 * i + 1) (omega arith))
    (follow_alike (joins_from f (i + 1) js) (joins_from f (i + 1) js') (join_of w x y) (join_of w' (ρ x) (ρ y)) (join_alike w w' al x y p q)
    (λ z. list_alike f (i + 1) n js js' (turns.words (join_of w x y)) (turns.words (join_of w' (ρ x) (ρ y))) l (omega arith) (joins_on w _ n js t (join_kept w x y p)) (joins_on w' _ n js' t' (join_kept w' (ρ x) (ρ y) q)) z))

-- process_horz_joins on alike words with renumbered joins
pub joins_alike : {ρ : ℕ → ℕ} (n : ℕ) (js js' w w' : List ℕ) → RenumberedList ρ (2 * n) js js' → Joins w n js → Joins w' n js' → Renumbered ρ (view w) (view w') → SameJoinEnd ρ (process_horz_joins n js w) (process_horz_joins n js' w')
joins_alike n js js' w w' l t t' al = list_alike n 0 n js js' w w' l (omega arith) t t' al
