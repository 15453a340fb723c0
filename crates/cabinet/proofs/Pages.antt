-- Pages grow by whole lines.
use Rattle.std.proofs.Common.{◌≡◌, ℕ, zero, suc, ◌<◌, ◌⊎◌, List, [], ◌∷◌, ◌++◌, sym, refl, ap, ◌∙◌, ap₂, inl}
use Rattle.std.proofs.Common.{inr, append-nil, arith, Result, Vec, vec_items}
use Rattle.std.proofs.lemmas.Result.{IfOk-weaker, MatchResult-weaker}
use Rattle.element.specs.Algebra.{Algebra}
use Rattle.plan.specs.declared.records.CopyRecord.{CopyRecord}
use Rattle.protocol.specs.declared.tally.Report.{Report}
use Rattle.cabinet.specs.Pages.{copies_page, page_of, boards_page, Paged, refused_page}
use Rattle.refusals.specs.declared.refusal.Refusal.{Refusal}

module _ {M : Type 0} (A : Algebra M) where
  no_values : (rs : List CopyRecord) → copies_page A rs [] ≡ []
  no_values [] = refl
  no_values (r ∷ rs) = refl

  -- no copy is still to come
  pub copies_done : (page whole : List ℕ) (rs : List CopyRecord) (vs : List M) → (rs ≡ []) ⊎ (vs ≡ [])
      → page ++ copies_page A rs vs ≡ whole → page ≡ whole
  copies_done page whole rs vs end h = sym (ap (λ x. page ++ x) none ∙ append-nil page) ∙ h
    where
      none : copies_page A rs vs ≡ []
      none = elim end [
        | inl e ↦ ap (λ x. copies_page A x vs) e
        | inr e ↦ ap (copies_page A rs) e ∙ no_values rs
      ]

module _ {M : Type 0} (A : Algebra M) (records : List CopyRecord) (values : List M) where
  -- only the reports of the boards listed count
  pub same_reports : (report report' : ℕ → Report) (n : ℕ) → ((p : ℕ) → p < n → report p ≡ report' p)
      → boards_page A report records values n ≡ boards_page A report' records values n
  same_reports report report' zero h = refl
  same_reports report report' (suc n) h =
      ap₂ ◌++◌ (same_reports report report' n (λ p l. h p (omega arith)))
      (ap (λ r. page_of A (λ _. r) records values n) (h n (omega arith)))

-- what follows for every page follows for the one that a call answers
pub paged_weaker : {Z E : Type 0} (r : Result (Result (Vec ℕ Z) E) Refusal) (P Q : List ℕ → Type 0)
    → ((page : List ℕ) → P page → Q page) → Paged r P → Paged r Q
paged_weaker r P Q follows h = MatchResult-weaker r h
    (λ page. IfOk-weaker page _ _ (λ p. follows (vec_items p))) (λ f. follows (refused_page f))
