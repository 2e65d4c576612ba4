-- One way to write a job.
use Prim.Native.Nat.{ℕ, ◌≤◌}
use mathlib.Core.Path.{◌≡◌, refl, ap, ◌∙◌, sym, subst}
use mathlib.Core.List.{List, [], ◌∷◌, map}
use mathlib.Core.Option.{Option, none, some}
use native.Mathlib.Omega.{arith}
use lib.ListN.{length, replicate, length-replicate}
use Rattle.std.specs.Prelude.{Result}
use Rattle.job.specs.declared.refusal.Refusal.{Refusal}
use Rattle.std.proofs.Common.{Ok, Err}
use Rattle.rings.specs.Circle.{omap}
use Rattle.geometry.specs.declared.Point.{Point}
use Rattle.job.specs.Limits as limit
use Rattle.job.specs.declared.Job.{Job}
use Rattle.store.specs.Field.{BLOCK}
use Rattle.reading.specs.Fill.{ReadEnd, end, fill_of}
use Rattle.reading.specs.Read.{counted, with_counts, read_of}
use Rattle.rows.specs.Rows.{rows_of}
use Rattle.accepting.specs.Accept.{answer, judged, accept_of}
use Rattle.accepting.specs.Accepted.{Accepted}
use Rattle.opening.specs.Open.{JOIN_POINTS}
use Rattle.opening.proofs.Passing.{passed}
use Rattle.prefix.specs.Decides.{LONGEST}
use Rattle.prefix.proofs.Alike.{ReadWhole, fill_whole}
use Rattle.drawing.specs.Drawing.{Drawn, Spot, Drawing, drawing_of, drawn_from, drawing_in}
use Rattle.drawing.proofs.Theorem.{drawing_finish}
use Rattle.encoding.specs.Encode.{encode}
use Rattle.encoding.specs.OneWay.{rewritten, Agree, OneWay}
use Rattle.encoding.proofs.Encodable.{Encodable}
use Rattle.encoding.proofs.Again.{reads_back}
use Rattle.encoding.proofs.Accepted.{count, segments_count, joins_count, as_many, encodable}
use Rattle.encoding.proofs.Sizes.{encode_length, encode_bytes}
use Rattle.encoding.proofs.Listing.{same_listing}

-- ---- an accepted job

-- its bytes were read to the end
whole : (bytes w ss js : List ℕ) (j : Job) (v ts ks : List ℕ) → accept_of bytes w ss js ≡ end (Ok j) v ts ks → ReadWhole bytes j
unfolding accept_of read_of
whole bytes w ss js j v ts ks e = go (fill_of bytes w ss js) refl e
  where
    at : (i : Job) (u us ls : List ℕ) → fill_of bytes w ss js ≡ end (Ok i) u us ls → (x : Result (Unit {0}) Refusal) (u' : List ℕ) → end (answer x i) u' us ls ≡ end (Ok j) v ts ks → ReadWhole bytes j
    at i u us ls f (Ok _) u' d = let z : i ≡ j = cc (d) in rw (← z) (fill_whole bytes i u us ls w ss js f)
    at i u us ls f (Err x) u' d = absurd (let z : ◌≡◌ {A = ℕ} 0 1 = cc in omega arith)

    go : (T : ReadEnd) → fill_of bytes w ss js ≡ T → judged (with_counts T) ≡ end (Ok j) v ts ks → ReadWhole bytes j
    go (end (Ok i) u us ls) f d = at i u us ls f (rows_of (counted i u) us i.segments ls i.joins) (counted i u) d
    go (end (Err x) u us ls) f d = absurd (let z : ◌≡◌ {A = ℕ} 0 1 = cc in omega arith)

-- what is known of it and its drawing
record Known (bytes : List ℕ) (d : Drawing) : Type 0 where
  fits : Encodable d
  as_long : length (encode d) ≡ length bytes
  longest : length bytes ≤ LONGEST

known : (bytes : List ℕ) (d : Drawing) → drawing_in bytes ≡ some d → Known bytes d
unfolding drawing_in
known bytes d e = go (accept_of bytes (replicate BLOCK 0) (replicate limit.SEGMENTS 0) (replicate JOIN_POINTS 0)) refl e
  where
    read : (j : Job) (v ts ks : List ℕ) → accept_of bytes (replicate BLOCK 0) (replicate limit.SEGMENTS 0) (replicate JOIN_POINTS 0) ≡ end (Ok j) v ts ks → Known bytes (drawing_of v ts j.segments ks j.joins)
    read j v ts ks f =
        let a : Accepted j v ts ks = passed bytes (replicate BLOCK 0) v ts ks j (omega (arith, length-replicate {A = ℕ} BLOCK 0)) f in
        let r = whole bytes (replicate BLOCK 0) (replicate limit.SEGMENTS 0) (replicate JOIN_POINTS 0) j v ts ks f in
        let i = a.counts.within in
        record {
          fits = encodable j v ts ks a;
          as_long = omega (
            arith,
            encode_length (drawing_of v ts j.segments ks j.joins),
            as_many j v ts ks a,
            count j v ts ks a,
            segments_count j v ts ks a,
            joins_count j v ts ks a,
            a.counts.points,
            a.counts.records,
            r.long,
          );
          longest = omega (arith, r.long, i.points, i.records, i.segments, i.joins);
        }

    go : (z : ReadEnd) → accept_of bytes (replicate BLOCK 0) (replicate limit.SEGMENTS 0) (replicate JOIN_POINTS 0) ≡ z → drawn_from z ≡ some d → Known bytes d
    go (end (Ok j) v ts ks) f g = let q : drawing_of v ts j.segments ks j.joins ≡ d = cc (g) in subst (Known bytes) q (read j v ts ks f)
    go (end (Err x) v ts ks) f g = absurd (let z : ◌≡◌ {A = ℕ} 0 1 = cc in omega arith)

-- ---- what is written of it

draws_again : (a : List ℕ) (d : Drawing) → drawing_in a ≡ some d → drawing_in (encode d) ≡ some d
draws_again a d e = reads_back d (known a d e).fits

-- a job of which something is written
record Wrote (a x : List ℕ) : Type 0 where
  drawing : Drawing
  draws : drawing_in a ≡ some drawing
  is : x ≡ encode drawing

wrote : (a x : List ℕ) → rewritten a ≡ some x → Wrote a x
unfolding rewritten
wrote a x e = go (drawing_in a) refl e
  where
    go : (o : Option Drawing) → drawing_in a ≡ o → omap encode o ≡ some x → Wrote a x
    go none f g = absurd (let z : ◌≡◌ {A = ℕ} 0 1 = cc in omega arith)
    go (some d) f g = record { drawing = d; draws = f; is = cc (g) }

writes : (a : List ℕ) (d : Drawing) → drawing_in a ≡ some d → rewritten a ≡ some (encode d)
unfolding rewritten
writes a d e = ap (omap encode) e

told : {A : Type 0} (a b : A) → ◌≡◌ {A = Option A} (some a) (some b) → a ≡ b
told a b e = cc

-- ---- drawings agree exactly when they are equal

same_records : (l m : List Drawn) → map (λ (r : Drawn). r.flags) l ≡ map (λ (r : Drawn). r.flags) m → map (λ (r : Drawn). r.owner) l ≡ map (λ (r : Drawn). r.owner) m
    → map (λ (r : Drawn). r.ring) l ≡ map (λ (r : Drawn). r.ring) m → l ≡ m
same_records [] [] e f g = refl
same_records [] (b ∷ m) e f g = absurd (let z : ◌≡◌ {A = ℕ} 0 1 = cc in omega arith)
same_records (a ∷ l) [] e f g = absurd (let z : ◌≡◌ {A = ℕ} 0 1 = cc in omega arith)
same_records (a ∷ l) (b ∷ m) e f g = both (one a.flags b.flags a.owner b.owner a.ring b.ring (cc) (cc) (cc)) (same_records l m (cc) (cc) (cc))
  where
    one : (p q r s : ℕ) (c c' : List Point) → p ≡ q → r ≡ s → c ≡ c' → ◌≡◌ {A = Drawn} (record { flags = p; owner = r; ring = c }) (record { flags = q; owner = s; ring = c' })
    one p q r s c c' x y z = cc

    both : {x y : Drawn} {k n : List Drawn} → x ≡ y → k ≡ n → x ∷ k ≡ y ∷ n
    both x y = cc

agree_same : (d e : Drawing) → Agree d e → d ≡ e
agree_same d e a = all a.settings (same_records d.records e.records a.flags a.owners a.rings) a.segments a.joins
  where
    all : {x x' : ℕ} {r r' : List Drawn} {s s' j j' : List Spot} → x ≡ x' → r ≡ r' → s ≡ s' → j ≡ j'
        → ◌≡◌ {A = Drawing} (record { settings = x; records = r; segments = s; joins = j }) (record { settings = x'; records = r'; segments = s'; joins = j' })
    all p q r s = cc

same_agree : (d e : Drawing) → d ≡ e → Agree d e
same_agree d e q =
    record {
      settings = ap (λ (c : Drawing). c.settings) q;
      flags = ap (λ (c : Drawing). map (λ (r : Drawn). r.flags) c.records) q;
      owners = ap (λ (c : Drawing). map (λ (r : Drawn). r.owner) c.records) q;
      rings = ap (λ (c : Drawing). map (λ (r : Drawn). r.ring) c.records) q;
      segments = ap (λ (c : Drawing). c.segments) q;
      joins = ap (λ (c : Drawing). c.joins) q;
    }

-- ---- the statement

equal : (a b : List ℕ) (d e : Drawing) → drawing_in a ≡ some d → drawing_in b ≡ some e → rewritten a ≡ rewritten b → Agree d e
equal a b d e p q z =
    let y : encode d ≡ encode e = told (encode d) (encode e) (sym (writes a d p) ∙ z ∙ writes b e q) in
    same_agree d e (told d e (sym (draws_again a d p) ∙ ap drawing_in y ∙ draws_again b e q))

pub one_way : OneWay
one_way =
    record {
      equal_bytes = λ a b d e p q. (equal a b d e p q, λ g. writes a d p ∙ ap (λ (c : Drawing). some (encode c)) (agree_same d e g) ∙ sym (writes b e q));
      draws = λ a x z. let w = wrote a x z in ap drawing_in w.is ∙ draws_again a w.drawing w.draws ∙ sym w.draws;
      again = λ a x z. let w = wrote a x z in ap rewritten w.is ∙ writes (encode w.drawing) w.drawing (draws_again a w.drawing w.draws) ∙ ap some (sym w.is);
      finishing = λ a x z n t. let w = wrote a x z in drawing_finish a x n t w.drawing w.draws (ap drawing_in w.is ∙ draws_again a w.drawing w.draws);
      listing = λ a x z rate n t.
          let w = wrote a x z in
          let q = ap drawing_in w.is ∙ draws_again a w.drawing w.draws in
          same_listing a x w.drawing w.draws q n t (drawing_finish a x n t w.drawing w.draws q) rate;
      as_long = λ a x z. let w = wrote a x z in ap length w.is ∙ (known a w.drawing w.draws).as_long;
      never_longer = λ a x z. let w = wrote a x z in let k = known a w.drawing w.draws in omega (arith, ap length w.is, k.as_long, k.longest);
      bytes = λ a x z. let w = wrote a x z in rw w.is (encode_bytes w.drawing);
    }
