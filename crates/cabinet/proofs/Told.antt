-- What a page tells, by what preparing the scene answered.
use Rattle.std.proofs.Common.{◌≡◌, ℕ, ◌≤◌, true, false, cond, ◌&&◌, List, [], ◌∷◌, ◌++◌, length, take, drop, Ok}
use Rattle.std.proofs.Common.{Err, sym, refl, ap, ◌∙◌, subst, arith}
use Rattle.std.proofs.lemmas.List.{take_at}
use Rattle.std.proofs.lemmas.Bool.{both_ways}
use Rattle.medium.specs.Calls.{Rules}
use Rattle.scene.specs.Cells.{Scene, Sound}
use Rattle.scene.specs.Layout.{scene_of}
use Rattle.scene.specs.Rules.{Rule, all_hold, admits, scene_rules, verdict}
use Rattle.plan.specs.Sound.{sound_plan}
use Rattle.plan.specs.declared.records.CopyRecord.{CopyRecord}
use Rattle.plan.specs.declared.records.Edge.{Edge}
use Rattle.forest.specs.Forest.{laid_copies, laid_edges}
use Rattle.forest.proofs.Accepted.{laid_plan_is_sound}
use Rattle.laying.specs.Laid.{Laid}
use Rattle.laying.specs.declared.laying.LaidCounts.{LaidCounts}
use Rattle.laying.specs.declared.fault.LayFault.TheVariants.{Copies, Edges}
use Rattle.exchange.specs.Going.{LaidPlan}
use Rattle.cabinet.specs.Listed.{record_room, KindTold, SceneTold, VerdictTold, PageTold}
use Rattle.cabinet.specs.Prepared.{Hindrance}
use Rattle.cabinet.specs.Pages.{refused_page}
use Rattle.refusals.specs.declared.refusal.Refusal.{Refusal}
use Rattle.refusals.specs.declared.refusal.Refusal.TheVariants.{Scene as SceneRefused, Lay, Plan, Run}

-- a laid plan keeps the rules of a plan
pub laid_plan_accepted : (s : Scene) (boards : ℕ) (records : List CopyRecord) (edges : List Edge)
    → LaidPlan s boards records edges → sound_plan boards records edges ≡ true
laid_plan_accepted s boards records edges plan =
    ap (λ b. sound_plan b records edges) plan.same_boards
    ∙ ap (λ rs. sound_plan s.boards rs edges) plan.same_copies
    ∙ ap (λ es. sound_plan s.boards (laid_copies s) es) plan.same_edges
    ∙ laid_plan_is_sound s plan.sound

front : {X : Type 0} (n : ℕ) (xs ys rest : List X) → n ≡ length xs → ys ≡ xs ++ rest → take n ys ≡ xs
front n xs ys rest e p = ap (take n) p ∙ take_at xs rest n (sym e)

-- the records in front are the laid plan, and there was room for them
pub laid_in_front : (s s' : Scene) (n : LaidCounts) (cs cs' : List CopyRecord) (es es' : List Edge) → Sound s
    → s ≡ s' → Laid s' n cs cs' es es'
    → LaidPlan s s.boards (take n.copies cs') (take n.edges es')
laid_in_front s s' n cs cs' es es' ok same laid' =
    let laid = subst (λ (x : Scene). Laid x n cs cs' es es') (sym same) laid' in
    record {
      sound = ok;
      same_boards = refl;
      same_copies = front n.copies (laid_copies s) cs' (drop n.copies cs) laid.copy_count laid.copies_laid;
      same_edges = front n.edges (laid_edges s) es' (drop n.edges es) laid.edge_count laid.edges_laid;
    }

no_fault : {F : Type 0} (rs : List (Rule F)) → all_hold rs ≡ true → verdict rs ≡ Ok tt
no_fault [] e = refl
no_fault (r ∷ rs) e =
    (elim r.0 as (λ t. (t && all_hold rs ≡ true) → cond t (verdict rs) (Err r.1) ≡ Ok tt)
    [ true ↦ no_fault rs | false ↦ (λ x. absurd (both_ways false refl x)) ]) e

module _ {D : Type 0} (R : Rules D) (bytes : List ℕ) (d : D) where
  scene_told : (page : List ℕ) → admits bytes ≡ true → SceneTold R (scene_of bytes) d page → PageTold R bytes d page
  scene_told page ok told =
      subst (λ v. VerdictTold R v (scene_of bytes) d page) (sym (no_fault (scene_rules bytes) ok)) told

  pub run_told : (page : List ℕ) → admits bytes ≡ true → length (laid_copies (scene_of bytes)) ≤ record_room
      → length (laid_edges (scene_of bytes)) ≤ record_room → KindTold R (scene_of bytes) d page
      → PageTold R bytes d page
  run_told page ok few_copies few_edges told = scene_told page ok record {
    many_copies = λ l. absurd (omega arith);
    many_edges = λ _ l. absurd (omega arith);
    runs = λ _ _. told;
  }

  pub refusal_told : (f : Refusal) (copies : List CopyRecord) (edges : List Edge)
      → length copies ≡ record_room → length edges ≡ record_room → Hindrance bytes f copies edges
      → PageTold R bytes d (refused_page f)
  refusal_told (SceneRefused f) copies edges cn en broken =
      subst (λ v. VerdictTold R v (scene_of bytes) d (refused_page (SceneRefused f))) (sym broken) refl
  refusal_told (Lay (Copies n)) copies edges cn en (ok, (needed, short)) = scene_told _ ok record {
    many_copies = λ _. ap (λ k. refused_page (Lay (Copies k))) needed;
    many_edges = λ l _. absurd (omega (arith, l, needed, short, cn));
    runs = λ l _. absurd (omega (arith, l, needed, short, cn));
  }
  refusal_told (Lay (Edges n)) copies edges cn en (ok, (needed, room, short)) = scene_told _ ok record {
    many_copies = λ l. absurd (omega (arith, l, room, cn));
    many_edges = λ _ _. ap (λ k. refused_page (Lay (Edges k))) needed;
    runs = λ _ l. absurd (omega (arith, l, needed, short, en));
  }
  refusal_told (Plan f) copies edges cn en never = absurd never
  refusal_told (Run f) copies edges cn en never = absurd never
