-- Which bytes stand where: lists of bytes put together and taken apart by their places.
use Rattle.std.proofs.Common.{◌≡◌, ℕ, zero, suc, ◌+◌, ◌-◌, ◌*◌, ◌/◌, ◌%◌, ◌^◌, ◌<◌, ◌≤◌, List, [], ◌∷◌, ◌++◌, length}
use Rattle.std.proofs.Common.{get_or, drop, sym, refl, ap, ◌∙◌, subst, mul-zero, mul-suc, arith}
use Rattle.std.specs.List.{flat_map, AllByRecursion}
use Rattle.std.proofs.lemmas.List.{drop_all, drop_more, length-append, length-drop}
use Rattle.element.specs.declared.words.Words.{Words}
use Rattle.scene.specs.Layout.{byte_at, number_at, word_at, words_at}
use Rattle.scene.specs.Written.{two_bytes, four_bytes, words_bytes}

-- the bytes xs stand in b from the place at on
abbrev pub Stands : List ℕ → ℕ → List ℕ → Type 0
Stands b at [] = Unit {0}
Stands b at (x ∷ xs) = (at < length b) × (byte_at b at ≡ x) × Stands b (at + 1) xs

module _ (b : List ℕ) where
  pub moved : (xs : List ℕ) (at to : ℕ) → at ≡ to → Stands b at xs → Stands b to xs
  moved xs at to e h = subst (λ p. Stands b p xs) e h

  pub cut : (xs ys : List ℕ) (at : ℕ) → Stands b at (xs ++ ys) → Stands b at xs × Stands b (at + length xs) ys
  cut [] ys at h = (tt, moved ys at (at + 0) (omega arith) h)
  cut (x ∷ xs) ys at h =
      let r = cut xs ys (at + 1) h.2 in
      ((h.0, h.1, r.0), moved ys (at + 1 + length xs) (at + suc (length xs)) (omega arith) r.1)

  pub glue : (xs ys : List ℕ) (at : ℕ) → Stands b at xs → Stands b (at + length xs) ys → Stands b at (xs ++ ys)
  glue [] ys at h k = moved ys (at + 0) at (omega arith) k
  glue (x ∷ xs) ys at h k =
      let rest = moved ys (at + suc (length xs)) (at + 1 + length xs) (omega arith) k in
      (h.0, h.1, glue xs ys (at + 1) h.2 rest)

  pub ends : (x : ℕ) (xs : List ℕ) (at : ℕ) → Stands b at (x ∷ xs) → at + length (x ∷ xs) ≤ length b
  ends x [] at h = omega arith
  ends x (y ∷ ys) at h = let r = ends y ys (at + 1) h.2 in omega arith

  left_standing : (xs : List ℕ) (at : ℕ) → drop at b ≡ xs → Stands b at xs
  left_standing [] at h = tt
  left_standing (x ∷ xs) at h =
      let some : suc (length xs) ≡ length b - at = ap length (sym h) ∙ length-drop at b in
      let in' : at < length b = omega arith in
      let e = sym (drop_more b at 0 in') ∙ h in
      let front : byte_at b at ≡ x = cc in
      let back : drop (at + 1) b ≡ xs = cc in
      (in', front, left_standing xs (at + 1) back)

  pub whole : Stands b 0 b
  whole = left_standing b 0 refl

  standing_left : (xs : List ℕ) (at : ℕ) → length b ≡ at + length xs → Stands b at xs → drop at b ≡ xs
  standing_left [] at l h = drop_all at b (omega arith)
  standing_left (x ∷ xs) at l h =
      drop_more b at 0 h.0
      ∙ ap (λ v. v ∷ drop (at + 1) b) h.1
      ∙ ap (λ r. x ∷ r) (standing_left xs (at + 1) (omega arith) h.2)

  pub same_bytes : (xs : List ℕ) → length b ≡ length xs → Stands b 0 xs → b ≡ xs
  same_bytes xs l h = standing_left xs 0 (omega arith) h

-- lists of one size, one for each element
module _ {X : Type 0} (g : X → List ℕ) (size : ℕ) (d : X) where
  abbrev Sized : List X → Type 0
  Sized xs = AllByRecursion (λ x. length (g x) ≡ size) xs

  pub length_each : (xs : List X) → Sized xs → length (flat_map g xs) ≡ size * length xs
  length_each [] h = sym (mul-zero size)
  length_each (x ∷ xs) h =
      let more = mul-suc size (length xs) in
      let rest = length_each xs h.1 in
      let first = h.0 in
      let both = length-append (g x) (flat_map g xs) in
      omega arith

  pub cut_each : (b : List ℕ) (xs : List X) (at : ℕ) → Sized xs → Stands b at (flat_map g xs)
      → (i : ℕ) → i < length xs → Stands b (at + size * i) (g (get_or xs i d))
  cut_each b [] at s h i l = let no : ⊥ = omega arith in absurd no
  cut_each b (x ∷ xs) at s h zero l =
      let none = mul-zero size in
      moved b (g x) at (at + size * 0) (omega arith) (cut b (g x) (flat_map g xs) at h).0
  cut_each b (x ∷ xs) at s h (suc i) l =
      let more = mul-suc size i in
      let first = s.0 in
      moved b (g (get_or xs i d)) (at + length (g x) + size * i) (at + size * suc i) (omega arith)
      (cut_each b xs (at + length (g x)) s.1 (cut b (g x) (flat_map g xs) at h).1 i (omega arith))

  pub glue_each : (b : List ℕ) (xs : List X) (at : ℕ) → Sized xs
      → ((i : ℕ) → i < length xs → Stands b (at + size * i) (g (get_or xs i d)))
      → Stands b at (flat_map g xs)
  glue_each b [] at s h = tt
  glue_each b (x ∷ xs) at s h =
      let none = mul-zero size in
      let first = s.0 in
      glue b (g x) (flat_map g xs) at (moved b (g x) (at + size * 0) at (omega arith) (h 0 (omega arith)))
      (glue_each b xs (at + length (g x)) s.1
      (λ i l.
      let more = mul-suc size i in
      moved b (g (get_or xs i d)) (at + size * suc i) (at + length (g x) + size * i) (omega arith)
      (h (suc i) (omega arith))))

-- numbers, words and contributions read where their bytes stand
module _ (b : List ℕ) where
  pub number_there : (n at : ℕ) → Stands b at (two_bytes n) → number_at b at ≡ n
  number_there n at h = let low = h.1 in let high = h.2.1 in omega arith

  pub word_there : (n at : ℕ) → Stands b at (four_bytes n) → word_at b at ≡ n
  word_there n at h =
      let halves = cut b (two_bytes (n % 65536)) (two_bytes (n / 65536)) at h in
      let low = number_there (n % 65536) at halves.0 in
      let high = number_there (n / 65536) (at + 2) halves.1 in
      omega arith

  pub words_there : (w : Words) (at : ℕ) → Stands b at (words_bytes w) → words_at b at ≡ w
  words_there w at h =
      let first = cut b (four_bytes w.x) (four_bytes w.y ++ four_bytes w.z) at h in
      let others = cut b (four_bytes w.y) (four_bytes w.z) (at + 4) first.1 in
      let last = moved b (four_bytes w.z) (at + 4 + 4) (at + 8) (omega arith) others.1 in
      let p = word_there w.x at first.0 in
      let q = word_there w.y (at + 4) others.0 in
      let r = word_there w.z (at + 8) last in
      λ i. record { x = p i; y = q i; z = r i }

-- and written where they are read, since every byte is below 256
module _ (b : List ℕ) (small : (i : ℕ) → byte_at b i < 256) where
  pub number_stands : (at : ℕ) → at + 2 ≤ length b → Stands b at (two_bytes (number_at b at))
  number_stands at h =
      let low = small at in
      let high = small (at + 1) in
      let p : byte_at b at ≡ number_at b at % 256 = omega arith in
      let q : byte_at b (at + 1) ≡ number_at b at / 256 = omega arith in
      (omega arith, p, (omega arith, q, tt))

  pub number_small : (at : ℕ) → number_at b at < 65536
  number_small at = let low = small at in let high = small (at + 1) in omega arith

  pub word_stands : (at : ℕ) → at + 4 ≤ length b → Stands b at (four_bytes (word_at b at))
  word_stands at h =
      let low = number_small at in
      let p : number_at b at ≡ word_at b at % 65536 = omega arith in
      let q : number_at b (at + 2) ≡ word_at b at / 65536 = omega arith in
      glue b (two_bytes (word_at b at % 65536)) (two_bytes (word_at b at / 65536)) at
      (subst (λ n. Stands b at (two_bytes n)) p (number_stands at (omega arith)))
      (subst (λ n. Stands b (at + 2) (two_bytes n)) q (number_stands (at + 2) (omega arith)))

  pub word_small : (at : ℕ) → word_at b at < 2 ^ 32
  word_small at = let low = number_small at in let high = number_small (at + 2) in omega arith

  pub words_stand : (at : ℕ) → at + 12 ≤ length b → Stands b at (words_bytes (words_at b at))
  words_stand at h =
      let y = four_bytes (word_at b (at + 4)) in
      let z = four_bytes (word_at b (at + 8)) in
      let last = moved b z (at + 8) (at + 4 + 4) (omega arith) (word_stands (at + 8) (omega arith)) in
      glue b (four_bytes (word_at b at)) (y ++ z) at (word_stands at (omega arith))
      (glue b y z (at + 4) (word_stands (at + 4) (omega arith)) last)
