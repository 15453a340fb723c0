-- Lists of calls of a medium, one after the other.
use Rattle.std.proofs.Common.{◌≡◌, List, [], ◌∷◌, ◌++◌, sym, subst}
use Rattle.std.proofs.lemmas.List.{append-nil, append_assoc}
use Rattle.medium.specs.Calls.{Rules, Call, Leads, Calls, no_call, one_call, LooksLike}

module _ {D : Type 0} {R : Rules D} where
  -- one list of calls, and then another
  pub calls_then : {d e f : D} {cs ds : List Call} → Calls R d cs e → Calls R e ds f → Calls R d (cs ++ ds) f
  calls_then {cs = cs} before no_call = rw (append-nil cs) before
  calls_then {cs = cs} before (one_call ds c e' f later leads) =
      rw (← append_assoc cs ds (c ∷ [])) (one_call (cs ++ ds) c e' f (calls_then before later) leads)

  -- a list of one call
  pub call_made : {d e : D} {c : Call} → Leads R c d e → Calls R d (c ∷ []) e
  call_made {d = d} {e = e} {c = c} leads = one_call [] c d e no_call leads

module _ {D E : Type 0} (R : Rules D) (S : Rules E) (d : D) (e : E) (alike : LooksLike R d S e) where
  -- the same frames wait in media that look alike
  pub alike_lanes : R.lanes d ≡ S.lanes e
  alike_lanes = alike [] d e no_call no_call

  -- and they still look alike after the same calls
  pub alike_after : (d' : D) (e' : E) (cs ds : List Call) → cs ≡ ds → Calls R d cs d' → Calls S e ds e'
      → LooksLike R d' S e'
  alike_after d' e' cs ds same a b more f g c h =
      alike (cs ++ more) f g (calls_then a c)
      (subst (λ xs. Calls S e (xs ++ more) g) (sym same) (calls_then b h))
