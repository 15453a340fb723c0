-- Every run that a call carries on keeps the promise.
use Rattle.std.proofs.Common.{◌≡◌, ℕ, zero, suc, ◌+◌, ◌*◌, ◌/◌, ◌%◌, ◌<◌, false, cond, List, [], ◌∷◌, ◌++◌, length}
use Rattle.std.proofs.Common.{get_or, drop, replicate, Ok, Err, Result, sym, refl, ap, ◌∙◌, subst, ap₂, inl, inr}
use Rattle.std.proofs.Common.{append_assoc, append-nil, arith}
use Rattle.std.proofs.lemmas.List.{length-append, length-map, get_or_append_left, get_or-map}
use Rattle.std.proofs.lemmas.Bool.{cases_lt, lt-ltb, le-ltb}
use Rattle.element.specs.Algebra.{Algebra, Lawful}
use Rattle.scene.specs.Cells.{Scene, Sound}
use Rattle.scene.specs.Sums.{own_sum}
use Rattle.plan.specs.Links.{shape, no_copy}
use Rattle.plan.specs.declared.records.CopyRecord.{CopyRecord}
use Rattle.plan.specs.declared.records.Edge.{Edge}
use Rattle.forest.specs.Forest.{laid_copies, laid_edges}
use Rattle.protocol.specs.declared.tally.TurnCounts.{TurnCounts}
use Rattle.medium.specs.Lanes.{Lanes, is_lane}
use Rattle.protocol.specs.Books.{Book, blank, fed}
use Rattle.protocol.specs.Runs.{Moment, Turn, Still, Run, refused_turn, fresh, turn, call, laid, seen, counts}
use Rattle.protocol.specs.Runs.{no_tally, no_link, link_at}
use Rattle.protocol.specs.Turns.{lost}
use Rattle.protocol.proofs.Theorem.{promise_holds}
use Rattle.sums.proofs.Contributions.{cond_same}
use Rattle.protocol.specs.declared.fault.RunFault.{RunFault}
use Rattle.exchange.specs.Calls.{IdleBefore, TurnAnswers}
use Rattle.sums.specs.Sums.{loaded_copies}
use Rattle.exchange.specs.Going.{LaidPlan, OwnSums, Kept, GoesOn, Carried}

get_or_of_same : {X : Type 0} (n k : ℕ) (x : X) → get_or (replicate n x) k x ≡ x
get_or_of_same zero k x = refl
get_or_of_same (suc n) zero x = refl
get_or_of_same (suc n) (suc k) x = get_or_of_same n k x

no_link_at : (n a b : ℕ) → link_at (replicate n no_link) a b ≡ no_link
no_link_at n a b =
    ap (λ x. cond (is_lane a b) x no_link) (get_or_of_same n (8 * a + b) no_link) ∙ cond_same (is_lane a b) no_link

-- lanes that hold nothing by number hold nothing
pub all_lanes_idle : (lanes : Lanes) → IdleBefore lanes 64 → ((a b : ℕ) → is_lane a b ≡ false → lanes a b ≡ [])
    → (a b : ℕ) → lanes a b ≡ []
all_lanes_idle lanes idle outside a b = elim (cases_lt a 8) [
  | inl l ↦ elim (cases_lt b 8) [
    | inl m ↦
        let x : (8 * a + b) / 8 ≡ a = omega arith in
        let y : (8 * a + b) % 8 ≡ b = omega arith in
        ap₂ lanes (sym x) (sym y) ∙ idle (8 * a + b) (omega arith)
    | inr m ↦ outside a b (rw (lt-ltb a 8 l, le-ltb b 8 m) refl)
  ]
  | inr l ↦ outside a b (rw (le-ltb a 8 l) refl)
]

module _ {M : Type 0} (A : Algebra M) (law : Lawful A) (s : Scene) where
  pub kept : Sound s → (ts : List ℕ) (m : Moment M) (book : Book) (losses : ℕ) → Run A s ts m book losses
      → Kept A s ts m book losses
  kept ok ts m book losses r = record { run = r; promise = promise_holds A law s ok ts m book losses r }

  pub run_starts : (m : Moment M) → Sound s → m.tally ≡ no_tally → m.links ≡ replicate 64 no_link
      → ((a b : ℕ) → m.lanes a b ≡ []) → OwnSums A s m.copies → Kept A s [] m blank 0
  run_starts m ok none reset idle own = kept ok [] m blank 0 (fresh record {
    no_turns = none;
    no_counts = λ a b. ap (λ l. link_at l a b) reset ∙ no_link_at 64 a b;
    no_frames = idle;
    room = own.room;
    loaded = own.loaded;
  })

  pub turn_goes_on : (boards : ℕ) (copies : List CopyRecord) (edges : List Edge) → LaidPlan s boards copies edges
      → (p : ℕ) (m m' : Moment M) (n : TurnCounts) → Turn A (shape boards edges) p m m'
      → n ≡ counts A (shape boards edges) (seen A m) (seen A m') p → GoesOn A s p m m' (Ok n)
  turn_goes_on boards copies edges plan p m m' n t e ts book losses r =
      let t' : Turn A (laid A s) p m m' =
      subst (λ b. Turn A (shape b (laid_edges s)) p m m') plan.same_boards
      (subst (λ es. Turn A (shape boards es) p m m') plan.same_edges t) in
      let same : lost A (laid A s) (seen A m) (seen A m') p ≡ n.lost =
      ap (λ b. lost A (shape b (laid_edges s)) (seen A m) (seen A m') p) (sym plan.same_boards)
      ∙ ap (λ es. lost A (shape boards es) (seen A m) (seen A m') p) (sym plan.same_edges)
      ∙ ap (λ (k : TurnCounts). k.lost) (sym e) in
      let book' : Book = fed (laid A s) p m.lanes book in
      kept plan.sound (ts ++ (p ∷ [])) m' book' (losses + n.lost)
      (subst (λ k. Run A s (ts ++ (p ∷ [])) m' book' (losses + k)) same (turn p m' r t'))

  pub still_goes_on : Sound s → (m m' : Moment M) → m' ≡ m
      → (ts : List ℕ) (book : Book) (losses : ℕ) → Run A s ts m book losses → Kept A s ts m' book losses
  still_goes_on ok m m' e ts book losses r =
      subst (λ x. Kept A s ts x book losses) (sym e) (kept ok ts m book losses r)

  pub answer_goes_on : (boards : ℕ) (records : List CopyRecord) (edges : List Edge) → LaidPlan s boards records edges
      → (p : ℕ) (m m' : Moment M) (r : Result TurnCounts RunFault) → TurnAnswers A boards records edges p m m' r
      → GoesOn A s p m m' r
  answer_goes_on boards records edges plan p m m' (Ok n) (none, t, e) =
      turn_goes_on boards records edges plan p m m' n t e
  answer_goes_on boards records edges plan p m m' (Err f) (some, e) =
      let refused : Still A s m = refused_turn p m.copies f (rw (← plan.same_copies, ← plan.same_boards) some) in
      (refused, λ ts book losses r. still_goes_on plan.sound m m' e ts book losses (call refused r))

  pub carried_nowhere : Sound s → (m : Moment M) → Carried A s m m []
  carried_nowhere ok m ts book losses r =
      (book, losses, subst (λ us. Kept A s us m book losses) (sym (append-nil ts)) (kept ok ts m book losses r))

  -- one more turn
  pub carried_on : (m m₁ m₂ : Moment M) (us : List ℕ) (p : ℕ) (n : TurnCounts) → Carried A s m m₁ us
      → GoesOn A s p m₁ m₂ (Ok n) → Carried A s m m₂ (us ++ (p ∷ []))
  carried_on m m₁ m₂ us p n c t ts book losses r =
      let (book₁, losses₁, k) = c ts book losses r in
      let book₂ : Book = fed (laid A s) p m₁.lanes book₁ in (
        book₂,
        losses₁ + n.lost,
        subst (λ vs. Kept A s vs m₂ book₂ (losses₁ + n.lost)) (append_assoc ts us (p ∷ []))
            (t (ts ++ us) book₁ losses₁ k.run),
      )

  -- some turns, then others
  pub carried_further : (m m₁ m₂ : Moment M) (us vs : List ℕ) → Carried A s m m₁ us → Carried A s m₁ m₂ vs
      → Carried A s m m₂ (us ++ vs)
  carried_further m m₁ m₂ us vs c d ts book losses r =
      let (book₁, losses₁, k) = c ts book losses r in
      let (book₂, losses₂, l) = d (ts ++ us) book₁ losses₁ k.run in
      (book₂, losses₂, subst (λ ws. Kept A s ws m₂ book₂ losses₂) (append_assoc ts us vs) l)

-- copies as loading sets them, by a laid plan, hold their boards' own sums
pub own_sums_from_load : {M : Type 0} (A : Algebra M) (s : Scene) (records : List CopyRecord) (memory memory' : List M)
    → records ≡ laid_copies s → memory' ≡ loaded_copies A s records ++ drop (length records) memory → OwnSums A s
    memory'
own_sums_from_load A s records memory memory' laid set =
    let many : length (loaded_copies A s records) ≡ length records = length-map records _ in
    let same : length records ≡ length (laid_copies s) = ap length laid in
    record {
      room = omega (
        arith,
        ap length set,
        length-append (loaded_copies A s records) (drop (length records) memory),
        many,
        same,
      );
      loaded = λ c l.
          let here : c < length records = omega (arith, same) in
          let there : c < length (loaded_copies A s records) = omega (arith, many) in
          ap (λ m. get_or m c A.zero) set
          ∙ get_or_append_left (loaded_copies A s records) (drop (length records) memory) A.zero c there
          ∙ get_or-map (λ (r : CopyRecord). own_sum A s r.board r.vertex) records c no_copy A.zero here
          ∙ ap (λ rs. own_sum A s (get_or rs c no_copy).board (get_or rs c no_copy).vertex) laid;
    }
