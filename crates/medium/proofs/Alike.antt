-- Two media look alike if something that makes their lanes equal is kept by each call of both.
use Rattle.std.specs.Prelude.{◌≡◌, ◌+◌, List, [], ◌∷◌, ◌++◌, length, refl}
use Rattle.std.proofs.Common.{subst, ap, arith}
use Rattle.std.proofs.lemmas.List.{length-append}
use Rattle.medium.specs.Calls.{Rules, Call, Leads, Calls, no_call, one_call, LooksLike}

-- a list that ends in an element is not empty
longer : {A : Type 0} (xs : List A) (x : A) → length (xs ++ x ∷ []) ≡ length xs + 1
longer xs x = length-append xs (x ∷ [])

-- what a list ends in, and what stands before it
end_parts : {A : Type 0} (xs ys : List A) (x y : A) → xs ++ x ∷ [] ≡ ys ++ y ∷ [] → (xs ≡ ys) × (x ≡ y)
end_parts [] [] x y e = (refl, cc)
end_parts [] (v ∷ ys) x y e = absurd (omega (arith, ap length e, longer ys y))
end_parts (u ∷ xs) [] x y e = absurd (omega (arith, ap length e, longer xs x))
end_parts (u ∷ xs) (v ∷ ys) x y e =
    let tails : xs ++ x ∷ [] ≡ ys ++ y ∷ [] = cc in
    let heads : u ≡ v = cc in
    let (before, last) = end_parts xs ys x y tails in
    ((cc), last)

module _ {D : Type 0} (R : Rules D) (d : D) where
  -- no calls lead nowhere
  no_step : (cs : List Call) (e : D) → Calls R d cs e → cs ≡ [] → d ≡ e
  no_step cs e no_call none = refl
  no_step cs e (one_call bs b m f before leads) none = absurd (omega (arith, ap length none, longer bs b))

  -- calls that end in c led somewhere from where c leads on
  last_step : (ds : List Call) (f : D) → Calls R d ds f → (cs : List Call) (c : Call) → ds ≡ cs ++ c ∷ []
      → (e : D) × Calls R d cs e × Leads R c e f
  last_step ds f no_call cs c is = absurd (omega (arith, ap length is, longer cs c))
  last_step ds f (one_call bs b e g before leads) cs c is =
      let (same, end) = end_parts bs cs b c is in
      (e, subst (λ xs. Calls R d xs e) same before, subst (λ x. Leads R x e f) end leads)

module _ {D E : Type 0} (R : Rules D) (S : Rules E) (Same : D → E → Type 0)
    (equal : (d : D) (e : E) → Same d e → R.lanes d ≡ S.lanes e)
    (kept : (c : Call) (d : D) (e : E) (d' : D) (e' : E) → Same d e → Leads R c d d' → Leads S c e e' → Same d' e')
    (d : D) (e : E) (same : Same d e) where
  -- it is kept by any calls
  still : (cs : List Call) (d' : D) (e' : E) → Calls R d cs d' → Calls S e cs e' → Same d' e'
  still cs d' e' no_call calls = subst (λ x. Same d x) (no_step S e cs e' calls refl) same
  still cs d' e' (one_call bs b m m' before leads) calls =
      let (n, others, last) = last_step S e cs e' calls bs b refl in
      kept b m n d' e' (still bs m n before others) leads last

  -- so that no calls tell the two apart
  pub alike : LooksLike R d S e
  alike cs d' e' calls others = equal d' e' (still cs d' e' calls others)
