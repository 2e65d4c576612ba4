-- A ring's path forward and its path reversed, over any geometry whose equality of points goes by a key: both are there or neither, and the keys stand in exactly opposite order.
use Prim.Native.Nat.{ℕ}
use mathlib.Core.Path.{◌≡◌, refl, sym, ap, ◌∙◌, subst}
use mathlib.Core.Bool.{Bool, true, false, cond, not, ◌&&◌}
use mathlib.Core.List.{List, [], ◌∷◌, ◌++◌, map, reverse, reverse-cons, reverse-append, reverse-reverse, map-append}
use mathlib.Core.Option.{Option, none, some}
use lib.Dec.{leb, eqb}
use lib.ListN.{length, length-map, length-reverse}
use Rattle.rings.specs.Circle.{turn, last_of}
use Rattle.lone.specs.Lone.{Geo}
use Rattle.lone.specs.Path.{in_order, drop_equals, without_equals, is_small_ring, build_path64_from_outpt}

-- ---- the order: reversed is forward backwards

order_turned : {A : Type 0} (c : List A) → in_order true c ≡ reverse (in_order false c)
order_turned [] = refl
order_turned (x ∷ xs) = sym (reverse-append xs (x ∷ []))

pub order_other : {A : Type 0} (rev : Bool) (c : List A) → in_order (not rev) c ≡ reverse (in_order rev c)
order_other false c = order_turned c
order_other true c = sym (ap reverse (order_turned c) ∙ reverse-reverse (in_order false c))

-- two tests that hold together are equal
agree : (s t : Bool) → (s ≡ true → t ≡ true) → (t ≡ true → s ≡ true) → s ≡ t
agree true t h k = sym (h refl)
agree false true h k = k refl
agree false false h k = refl

last_snoc : {A : Type 0} (z : A) (zs : List A) (y : A) → last_of z (zs ++ (y ∷ [])) ≡ y
last_snoc z [] y = refl
last_snoc z (x ∷ zs) y = last_snoc x zs y

module _ {P K : Type 0} (G : Geo P) (key : P → K) (same_key : (p q : P) → G.same_point p q ≡ true → key p ≡ key q) (key-same : (p q : P) → key p ≡ key q → G.same_point p q ≡ true) where
  -- equality reads the key only, and either way round
  reads : (x y a b : P) → key x ≡ key y → key a ≡ key b → G.same_point x a ≡ G.same_point y b
  reads x y a b h e = agree (G.same_point x a) (G.same_point y b) (λ i. key-same y b (sym h ∙ same_key x a i ∙ e)) (λ j. key-same x a (h ∙ same_key y b j ∙ sym e))

  swapped : (p q : P) → G.same_point p q ≡ G.same_point q p
  swapped p q = agree (G.same_point p q) (G.same_point q p) (λ i. key-same q p (sym (same_key p q i))) (λ j. key-same p q (sym (same_key q p j)))

  last_key : (l q : P) (qs : List P) → key l ≡ key q → key (last_of l qs) ≡ key (last_of q qs)
  last_key l q [] e = e
  last_key l q (r ∷ qs) e = refl

  pub drop_key : (x y : P) (l : List P) → key x ≡ key y → drop_equals G x l ≡ drop_equals G y l
  drop_key x y [] e = refl
  drop_key x y (q ∷ l) e = ap (λ (b : Bool). cond b (drop_equals G x l) (q ∷ drop_equals G q l)) (reads q q x y refl e) ∙ ap (λ (r : List P). cond (G.same_point q y) r (q ∷ drop_equals G q l)) (drop_key x y l e)

  -- ---- one point more at the end, and at the front

  drop_snoc : (l : P) (qs : List P) (x : P) → drop_equals G l (qs ++ (x ∷ [])) ≡ cond (G.same_point x (last_of l qs)) (drop_equals G l qs) (drop_equals G l qs ++ (x ∷ []))
  drop_snoc l [] x = refl
  drop_snoc l (q ∷ qs) x = go (G.same_point q l) refl (drop_snoc l qs x) (drop_snoc q qs x)
    where
      push : (b : Bool) (d : List P) → q ∷ cond b d (d ++ (x ∷ [])) ≡ cond b (q ∷ d) ((q ∷ d) ++ (x ∷ []))
      push true d = refl
      push false d = refl

      go : (b : Bool) → G.same_point q l ≡ b → drop_equals G l (qs ++ (x ∷ [])) ≡ cond (G.same_point x (last_of l qs)) (drop_equals G l qs) (drop_equals G l qs ++ (x ∷ []))
          → drop_equals G q (qs ++ (x ∷ [])) ≡ cond (G.same_point x (last_of q qs)) (drop_equals G q qs) (drop_equals G q qs ++ (x ∷ []))
          → cond b (drop_equals G l (qs ++ (x ∷ []))) (q ∷ drop_equals G q (qs ++ (x ∷ []))) ≡ cond (G.same_point x (last_of q qs)) (cond b (drop_equals G l qs) (q ∷ drop_equals G q qs)) (cond b (drop_equals G l qs) (q ∷ drop_equals G q qs) ++ (x ∷ []))
      go true e h k = h ∙ ap (λ (b : Bool). cond b (drop_equals G l qs) (drop_equals G l qs ++ (x ∷ []))) (reads x x (last_of l qs) (last_of q qs) refl (last_key l q qs (sym (same_key q l e))))
      go false e h k = ap (λ (r : List P). q ∷ r) k ∙ push (G.same_point x (last_of q qs)) (drop_equals G q qs)

  without_snoc : (ls : List P) (y x : P) → without_equals G ((ls ++ (y ∷ [])) ++ (x ∷ [])) ≡ cond (G.same_point x y) (without_equals G (ls ++ (y ∷ []))) (without_equals G (ls ++ (y ∷ [])) ++ (x ∷ []))
  without_snoc [] y x = go (G.same_point x y)
    where
      go : (b : Bool) → y ∷ cond b [] (x ∷ []) ≡ cond b (y ∷ []) (y ∷ x ∷ [])
      go true = refl
      go false = refl
  without_snoc (z ∷ zs) y x =
      ap (λ (r : List P). z ∷ r) (drop_snoc z (zs ++ (y ∷ [])) x ∙ ap (λ (r : P). cond (G.same_point x r) (drop_equals G z (zs ++ (y ∷ []))) (drop_equals G z (zs ++ (y ∷ [])) ++ (x ∷ []))) (last_snoc z zs y))
      ∙ push (G.same_point x y) (drop_equals G z (zs ++ (y ∷ [])))
    where
      push : (b : Bool) (d : List P) → z ∷ cond b d (d ++ (x ∷ [])) ≡ cond b (z ∷ d) ((z ∷ d) ++ (x ∷ []))
      push true d = refl
      push false d = refl

  keys_cons : (x y : P) (l : List P) → map key (without_equals G (x ∷ y ∷ l)) ≡ cond (G.same_point x y) (map key (without_equals G (y ∷ l))) (key x ∷ map key (without_equals G (y ∷ l)))
  keys_cons x y l = go (G.same_point y x) refl ∙ ap (λ (b : Bool). cond b (map key (without_equals G (y ∷ l))) (key x ∷ map key (without_equals G (y ∷ l)))) (swapped y x)
    where
      go : (b : Bool) → G.same_point y x ≡ b → key x ∷ map key (cond b (drop_equals G x l) (y ∷ drop_equals G y l)) ≡ cond b (key y ∷ map key (drop_equals G y l)) (key x ∷ key y ∷ map key (drop_equals G y l))
      go true e = ap (λ (k : K). k ∷ map key (drop_equals G x l)) (sym (same_key y x e)) ∙ ap (λ (r : List P). key y ∷ map key r) (drop_key x y l (sym (same_key y x e)))
      go false e = refl

  -- one point more at the front of a walk is one more at the end of the walk back
  pub without_back : (x y : P) (l : List P) → without_equals G (reverse (x ∷ y ∷ l)) ≡ cond (G.same_point x y) (without_equals G (reverse (y ∷ l))) (without_equals G (reverse (y ∷ l)) ++ (x ∷ []))
  without_back x y l =
      ap (λ (r : List P). without_equals G r) (reverse-cons x (y ∷ l) ∙ ap (λ (r : List P). r ++ (x ∷ [])) (reverse-cons y l))
      ∙ without_snoc (reverse l) y x
      ∙ ap (λ (r : List P). cond (G.same_point x y) (without_equals G r) (without_equals G r ++ (x ∷ []))) (sym (reverse-cons y l))

  -- ---- the keys: exactly opposite

  pub keys_turned : (l : List P) → map key (without_equals G (reverse l)) ≡ reverse (map key (without_equals G l))
  keys_turned [] = refl
  keys_turned (x ∷ []) = refl
  keys_turned (x ∷ y ∷ l) =
      ap (map key) (without_back x y l)
      ∙ push (G.same_point x y) (without_equals G (reverse (y ∷ l)))
      ∙ ap (λ (r : List K). cond (G.same_point x y) r (r ++ (key x ∷ []))) (keys_turned (y ∷ l))
      ∙ pull (G.same_point x y) (map key (without_equals G (y ∷ l)))
      ∙ ap reverse (sym (keys_cons x y l))
    where
      push : (b : Bool) (d : List P) → map key (cond b d (d ++ (x ∷ []))) ≡ cond b (map key d) (map key d ++ (key x ∷ []))
      push true d = refl
      push false d = map-append key d (x ∷ [])

      pull : (b : Bool) (d : List K) → cond b (reverse d) (reverse d ++ (key x ∷ [])) ≡ reverse (cond b d (key x ∷ d))
      pull true d = refl
      pull false d = sym (reverse-cons (key x) d)

  -- ---- the paths: both are there, or neither

  same_length : (l : List P) → length (without_equals G (reverse l)) ≡ length (without_equals G l)
  same_length l = sym (length-map (without_equals G (reverse l)) key) ∙ ap length (keys_turned l) ∙ length-reverse (map key (without_equals G l)) ∙ length-map (without_equals G l) key

  -- as many points are left either way
  pub same_order : (rev : Bool) (c : List P) → length (without_equals G (in_order (not rev) c)) ≡ length (without_equals G (in_order rev c))
  same_order rev c = ap (λ (l : List P). length (without_equals G l)) (order_other rev c) ∙ same_length (in_order rev c)

  pub data Alike (a b : List P) : Option (List P) → Option (List P) → Type 0 where
    neither : Alike a b none none
    each : Alike a b (some a) (some b)

  -- small: the small test says the same of a ring seen from the next point
  module _ (small : (c : List P) → is_small_ring G c ≡ is_small_ring G (turn c)) where
    small_other : (rev : Bool) (c : List P) → is_small_ring G (cond (not rev) c (turn c)) ≡ is_small_ring G (cond rev c (turn c))
    small_other false c = small c
    small_other true c = sym (small c)

    -- what is decided of them is the same
    pub tests_other : (rev is_open : Bool) (c : List P) →
        (not is_open && eqb (length (without_equals G (in_order (not rev) c))) 3 && is_small_ring G (cond (not rev) c (turn c))) ≡ (not is_open && eqb (length (without_equals G (in_order rev c))) 3 && is_small_ring G (cond rev c (turn c)))
    tests_other rev is_open c =
        ap (λ (n : ℕ). not is_open && eqb n 3 && is_small_ring G (cond (not rev) c (turn c))) (same_order rev c)
        ∙ ap (λ (b : Bool). not is_open && eqb (length (without_equals G (in_order rev c))) 3 && b) (small_other rev c)

    pub paths_alike : (rev is_open : Bool) (c : List P)
        → Alike (without_equals G (in_order rev c)) (without_equals G (in_order (not rev) c)) (build_path64_from_outpt G rev is_open c) (build_path64_from_outpt G (not rev) is_open c)
    unfolding build_path64_from_outpt
    paths_alike rev is_open c =
        go (without_equals G (in_order rev c)) (without_equals G (in_order (not rev) c)) (leb (length c) (cond is_open 1 2)) _ _ (tests_other rev is_open c) _ _ (ap (leb 2) (same_order rev c))
      where
        go : (a b : List P) (x y z : Bool) → z ≡ y → (u v : Bool) → v ≡ u → Alike a b (cond x none (cond y none (cond u (some a) none))) (cond x none (cond z none (cond v (some b) none)))
        go a b true y z e u v f = neither
        go a b false true z e u v f = subst (λ (t : Bool). Alike a b none (cond t none (cond v (some b) none))) (sym e) neither
        go a b false false z e true v f = subst (λ (t : Bool). Alike a b (some a) (cond t none (cond v (some b) none))) (sym e) (subst (λ (t : Bool). Alike a b (some a) (cond t (some b) none)) (sym f) each)
        go a b false false z e false v f = subst (λ (t : Bool). Alike a b none (cond t none (cond v (some b) none))) (sym e) (subst (λ (t : Bool). Alike a b none (cond t (some b) none)) (sym f) neither)
