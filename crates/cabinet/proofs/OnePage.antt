-- Pages of the same bytes over media that no calls tell apart are one page.
use Rattle.std.proofs.Common.{is_ok, ◌≡◌, ℕ, ◌/◌, ◌%◌, true, List, ◌++◌, length, Ok, Err, Result}
use Rattle.std.proofs.Common.{refl, sym, ap, ap₂, ◌∙◌, subst, inl, inr, arith}
use Rattle.std.proofs.Math.Path.{fun_ext}
use Rattle.std.proofs.lemmas.Bool.{and_parts, cases_eq, cases_lt, leb-true}
use Rattle.element.specs.Algebra.{Algebra}
use Rattle.element.specs.Kinds.{is_kind}
use Rattle.element.specs.Models.{force_algebra, depth_algebra, tags_algebra}
use Rattle.std.specs.Prelude.{nat_le}
use Rattle.medium.specs.Calls.{Rules, LooksLike}
use Rattle.medium.proofs.Calling.{alike_lanes}
use Rattle.scene.specs.Cells.{Scene}
use Rattle.scene.specs.Layout.{scene_of}
use Rattle.scene.specs.Rules.{scene_rules, verdict}
use Rattle.scene.specs.declared.fault.SceneFault.{SceneFault}
use Rattle.scene.proofs.Soundness.{sound}
use Rattle.scene.proofs.Verdicts.{verdict_ok}
use Rattle.forest.specs.Forest.{laid_copies, laid_edges}
use Rattle.protocol.specs.Runs.{laid, accepted_in}
use Rattle.exchange.specs.Calls.{FirstWaiting, IdleBefore}
use Rattle.circles.specs.Chains.{all_settled}
use Rattle.circles.proofs.One.{circles_have_one_end}
use Rattle.cabinet.specs.Listed.{record_room, circle_limit, started, Listed, RunTold, fresh, waits, KindTold, SceneTold}
use Rattle.cabinet.specs.Listed.{VerdictTold, PageTold}
use Rattle.cabinet.specs.Pages.{head_page, numbers_of, boards_page, table_report, refused_page}
use Rattle.cabinet.proofs.Pages.{same_reports}
use Rattle.cabinet.proofs.Runs.{one_lane_is_first, waiting_is_not_idle}
use Rattle.protocol.specs.Books.{report_by}
use Rattle.protocol.specs.declared.fault.RunFault.TheVariants.{Waiting}
use Rattle.refusals.specs.declared.refusal.Refusal.TheVariants.{Run}

module _ {D E : Type 0} (R : Rules D) (S : Rules E) (d : D) (e : E) (alike : LooksLike R d S e) where
  same_lanes : R.lanes d ≡ S.lanes e
  same_lanes = alike_lanes R S d e alike

  module _ {M : Type 0} (A : Algebra M) (s : Scene) where
    one_listing : (x y : List ℕ) → Listed A R s d x → Listed A S s e y → x ≡ y
    one_listing x y u v =
        let (_, same) = circles_have_one_end A R S (laid A s) (all_settled (laid A s)) circle_limit
        (started A s d) u.end (started A s e) v.end alike refl refl refl u.run v.run in
        let accepted : accepted_in u.end.links ≡ accepted_in v.end.links
        = fun_ext (λ a. fun_ext (λ b. ap (λ l. l.j) (same.links a b))) in
        u.told
        ∙ ap₂ (λ t cs. head_page (numbers_of s (laid_copies s) (laid_edges s)) t
        ++ boards_page A (table_report s.boards (laid_edges s) u.end.links)
        (laid_copies s) cs s.boards) same.tally same.copies
        ∙ ap (λ x. head_page (numbers_of s (laid_copies s) (laid_edges s)) v.end.tally ++ x)
        (same_reports A (laid_copies s) v.end.copies (table_report s.boards (laid_edges s) u.end.links)
        (table_report s.boards (laid_edges s) v.end.links) s.boards
        (λ p l. ap (λ a. report_by (laid A s) a p) accepted))
        ∙ sym v.told

    one_run : (x y : List ℕ) → RunTold A R s d x → RunTold A S s e y → x ≡ y
    one_run x y (fresh idle u) (fresh idle' v) = one_listing x y u v
    one_run x y (fresh idle u) (waits k first is) =
        absurd (waiting_is_not_idle (S.lanes e) k 64 first.a_lane (subst (λ l. IdleBefore l 64) same_lanes idle) first)
    one_run x y (waits k first is) (fresh idle v) =
        absurd (waiting_is_not_idle (R.lanes d) k 64 first.a_lane (subst (λ l. IdleBefore l 64) (sym same_lanes) idle) first)
    one_run x y (waits j first is) (waits k first' is') =
        is
        ∙ ap (λ n. refused_page (Run (Waiting (n / 8) (n % 8))))
        (one_lane_is_first (S.lanes e) j k (subst (λ l. FirstWaiting l j) same_lanes first) first')
        ∙ sym is'

  one_kind : (s : Scene) → is_kind s.kind ≡ true → (x y : List ℕ) → KindTold R s d x → KindTold S s e y → x ≡ y
  one_kind s known x y u v =
      let (low, high) = and_parts (nat_le 1 s.kind) (nat_le s.kind 3) known in
      elim (cases_eq s.kind 1) [
        | inl k ↦ one_run force_algebra s x y (u.forces k) (v.forces k)
        | inr n ↦ elim (cases_eq s.kind 2) [
          | inl k ↦ one_run depth_algebra s x y (u.depths k) (v.depths k)
          | inr m ↦
              let k : s.kind ≡ 3 = omega (arith, leb-true 1 s.kind low, leb-true s.kind 3 high) in
              one_run tags_algebra s x y (u.tags k) (v.tags k)
        ]
      ]

  one_scene : (s : Scene) → is_kind s.kind ≡ true → (x y : List ℕ) → SceneTold R s d x → SceneTold S s e y → x ≡ y
  one_scene s known x y u v = elim (cases_lt record_room (length (laid_copies s))) [
    | inl l ↦ u.many_copies l ∙ sym (v.many_copies l)
    | inr m ↦ elim (cases_lt record_room (length (laid_edges s))) [
      | inl l ↦ u.many_edges m l ∙ sym (v.many_edges m l)
      | inr n ↦ one_kind s known x y (u.runs m n) (v.runs m n)
    ]
  ]

  -- two pages of the same bytes
  pub pages_are_one : (bytes x y : List ℕ) → PageTold R bytes d x → PageTold S bytes e y → x ≡ y
  pages_are_one bytes x y = by (verdict (scene_rules bytes)) refl
    where
      by : (r : Result (Unit {0}) SceneFault) → verdict (scene_rules bytes) ≡ r
          → VerdictTold R r (scene_of bytes) d x → VerdictTold S r (scene_of bytes) e y → x ≡ y
      by (Ok _) is u v =
          one_scene (scene_of bytes) (sound bytes (verdict_ok (scene_rules bytes) ∙ ap is_ok is)).kind_known x y u v
      by (Err f) is u v = u ∙ sym v
