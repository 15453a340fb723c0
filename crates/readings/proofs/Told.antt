-- Computed pages are told by the rules of their media, and the programs' pages are none but these.
use Rattle.std.proofs.Common.{◌≡◌, ℕ, ◌≤◌, cond, eqb, List, length, Ok, Err, Result, is_ok, true, refl, sym, ap, ◌∙◌}
use Rattle.std.proofs.Common.{subst, arith, rules}
use Rattle.std.proofs.lemmas.Bool.{eq-eqb, ne_eqb, lt-ltb, le-ltb}
use Rattle.element.specs.Algebra.{Algebra, Lawful}
use Rattle.element.specs.Models.{force_algebra, depth_algebra, tags_algebra}
use Rattle.element.specs.Forces.{force_lawful}
use Rattle.element.specs.Unions.{tags_lawful}
use Rattle.medium.specs.Calls.{Rules, LooksLike}
use Rattle.scene.specs.Cells.{Scene, Sound}
use Rattle.scene.specs.Layout.{scene_of}
use Rattle.scene.specs.Rules.{scene_rules, verdict}
use Rattle.scene.specs.declared.fault.SceneFault.{SceneFault}
use Rattle.scene.proofs.Soundness.{sound}
use Rattle.scene.proofs.Verdicts.{verdict_ok}
use Rattle.forest.specs.Forest.{laid_copies, laid_edges}
use Rattle.cabinet.specs.Listed.{record_room, RunTold, fresh, KindTold, SceneTold, VerdictTold, PageTold}
use Rattle.cabinet.specs.Programs.{halo_rules, rough_rules}
use Rattle.cabinet.proofs.OnePage.{pages_are_one}
use Rattle.readings.specs.Media.{Medium, computed_rules, fresh_lanes, plain, rough}
use Rattle.readings.specs.Pages.{listed_by_kind, laid_page, page_by, page_over}
use Rattle.readings.specs.Pages.{PagesByTheRules, MediaLookAlike, PagesAreComputed}
use Rattle.readings.specs.Runs.{listed_over}
use Rattle.readings.proofs.Circling.{listed}
use Rattle.readings.proofs.Media.{plain_looks_alike, rough_looks_alike}

-- ---- what is told by cases, one page for each

-- where there is room for a plan's records it is listed
room_for_records : (copies edges : ℕ) (listed : List ℕ) → copies ≤ record_room → edges ≤ record_room
    → laid_page copies edges listed ≡ listed
room_for_records copies edges listed m n = rw (le-ltb record_room copies m, le-ltb record_room edges n) refl

module _ {D : Type 0} (R : Rules D) (s : Scene) (d : D) where
  each_kind_told : (x y z : List ℕ) → (s.kind ≡ 1 → RunTold force_algebra R s d x)
      → (s.kind ≡ 2 → RunTold depth_algebra R s d y) → (s.kind ≡ 3 → RunTold tags_algebra R s d z)
      → KindTold R s d (cond (eqb s.kind 1) x (cond (eqb s.kind 2) y z))
  each_kind_told x y z forces depths tags = record {
    forces = λ e. rw (eq-eqb s.kind 1 e) (forces e);
    depths = λ e. rw (ne_eqb s.kind 1 (λ o. omega arith), eq-eqb s.kind 2 e) (depths e);
    tags = λ e. rw (ne_eqb s.kind 1 (λ o. omega arith), ne_eqb s.kind 2 (λ o. omega arith)) (tags e);
  }

  laid_told : (page : List ℕ) → KindTold R s d page
      → SceneTold R s d (laid_page (length (laid_copies s)) (length (laid_edges s)) page)
  laid_told page told =
      let copies = length (laid_copies s) in
      let edges = length (laid_edges s) in
      record {
        many_copies = λ l. rw (lt-ltb record_room copies l) refl;
        many_edges = λ m l. rw (le-ltb record_room copies m, lt-ltb record_room edges l) refl;
        runs = λ m n. subst (KindTold R s d) (sym (room_for_records copies edges page m n)) told;
      }

  verdict_told : (r : Result (Unit {0}) SceneFault) (page : List ℕ) → (is_ok r ≡ true → KindTold R s d page)
      → VerdictTold R r s d (page_by r s page)
  verdict_told (Ok _) page told = laid_told page (told refl)
  verdict_told (Err f) page told = refl

-- ---- a computed page

module _ (medium : Medium) (s : Scene) (ok : Sound s) where
  run_told : {M : Type 0} (A : Algebra M) → Lawful A
      → RunTold A (computed_rules medium) s fresh_lanes (listed_over A s medium)
  run_told A law = fresh (λ m l. refl) (listed A medium s ok law)

  kind_told : KindTold (computed_rules medium) s fresh_lanes (listed_by_kind medium s)
  kind_told = each_kind_told (computed_rules medium) s fresh_lanes _ _ _
      (λ _. run_told force_algebra force_lawful)
      (λ _. run_told depth_algebra (search rules))
      (λ _. run_told tags_algebra tags_lawful)

pub pages_by_the_rules : PagesByTheRules
pages_by_the_rules medium bytes =
    verdict_told (computed_rules medium) (scene_of bytes) fresh_lanes (verdict (scene_rules bytes))
    (listed_by_kind medium (scene_of bytes))
    (λ accepted. kind_told medium (scene_of bytes) (sound bytes (verdict_ok (scene_rules bytes) ∙ accepted)))

pub media_look_alike : MediaLookAlike
media_look_alike = record { plain_alike = plain_looks_alike; rough_alike = rough_looks_alike }

-- ---- pages of the programs

-- a page told over a medium that looks like the computed one is the computed one
page_is_computed : {D : Type 0} (medium : Medium) (R : Rules D) (d : D)
    → LooksLike (computed_rules medium) fresh_lanes R d
    → (bytes page : List ℕ) → PageTold R bytes d page → page ≡ page_over medium bytes
page_is_computed medium R d alike bytes page told =
    sym (pages_are_one (computed_rules medium) R fresh_lanes d alike bytes (page_over medium bytes) page
    (pages_by_the_rules medium bytes) told)

pub pages_are_computed : PagesAreComputed
pages_are_computed = record {
  halo_pages = λ bytes page p.
      page_is_computed plain halo_rules p.medium (plain_looks_alike p.medium p.opened) bytes page p.told;
  rough_pages = λ bytes page p. page_is_computed rough rough_rules p.medium
      (rough_looks_alike p.medium p.first p.opened) bytes page p.told;
}

-- ---- the page of an accepted scene with room for its plan

first_kind : (k : ℕ) (x y z : List ℕ) → k ≡ 1 → cond (eqb k 1) x (cond (eqb k 2) y z) ≡ x
first_kind k x y z e = rw (eq-eqb k 1 e) refl

second_kind : (k : ℕ) (x y z : List ℕ) → k ≡ 2 → cond (eqb k 1) x (cond (eqb k 2) y z) ≡ y
second_kind k x y z e = rw (ne_eqb k 1 (λ o. omega arith), eq-eqb k 2 e) refl

module _ (medium : Medium) (bytes : List ℕ) (accepted : verdict (scene_rules bytes) ≡ Ok tt)
    (copies : length (laid_copies (scene_of bytes)) ≤ record_room)
    (edges : length (laid_edges (scene_of bytes)) ≤ record_room) where
  accepted_page : page_over medium bytes ≡ listed_by_kind medium (scene_of bytes)
  accepted_page =
      let s = scene_of bytes in
      let listed = listed_by_kind medium s in
      ap (λ v. page_by v s listed) accepted
      ∙ room_for_records (length (laid_copies s)) (length (laid_edges s)) listed copies edges

  pub page_of_forces : (scene_of bytes).kind ≡ 1
      → page_over medium bytes ≡ listed_over force_algebra (scene_of bytes) medium
  page_of_forces kind = accepted_page ∙ first_kind (scene_of bytes).kind _ _ _ kind

  pub page_of_depths : (scene_of bytes).kind ≡ 2
      → page_over medium bytes ≡ listed_over depth_algebra (scene_of bytes) medium
  page_of_depths kind = accepted_page ∙ second_kind (scene_of bytes).kind _ _ _ kind
