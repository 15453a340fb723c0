-- No calls tell the computed media from those of the two programs.
use Rattle.std.proofs.Common.{◌≡◌, ℕ, ◌+◌, ◌%◌, ◌≤◌, cond, length, sym, ap, ap₂, ◌∙◌, subst, inl, inr, arith}
use Rattle.std.proofs.ByRecursion.{All-get_or}
use Rattle.std.proofs.Math.Nat.{mod-add-mod}
use Rattle.std.proofs.lemmas.Bool.{and_right, cases_eq, cases_lt, eq-eqb, le-ltb, ne_eqb}
use Rattle.medium.specs.Calls.{Call, take_call, put_call, Leads, LooksLike}
use Rattle.medium.specs.Fates.{entry, entry_after, script_table}
use Rattle.medium.specs.Held.{queue_count}
use Rattle.medium.specs.Lanes.{appended, is_lane, shortened}
use Rattle.medium.specs.Puts.{Scripted}
use Rattle.medium.specs.Quotas.{limit_of}
use Rattle.medium.specs.Scripts.{below_script, next_of}
use Rattle.medium.specs.declared.frame.Frame.{Frame}
use Rattle.medium.specs.declared.queue.Queue.{Queue}
use Rattle.medium.specs.declared.quota.Quota.{Quota}
use Rattle.medium.specs.declared.script.Script.{Script}
use Rattle.medium.proofs.Alike.{alike}
use Rattle.cabinet.specs.Programs.{halo_rules, rough_rules, IsOpened}
use Rattle.readings.specs.Media.{CountedLanes, computed_rules, fresh_lanes, plain, rough}

-- a put to a quota of 8 over a queue appends as many as a queue alone, and the limit stays
rationed : (s : Quota Queue) (from to : ℕ) (f : Frame) (k : ℕ) (t : Quota Queue) → limit_of s ≡ 8
    → halo_rules.puts s from to f k t → (k ≡ queue_count (halo_rules.lanes s) from to) × (limit_of t ≡ 8)
rationed s from to f k t eight (stays, r) = (
  elim (cases_lt (length (halo_rules.lanes s from to)) (limit_of s)) [
    | inl room ↦ (r.passed room).0
    | inr full ↦
        let no_room = le-ltb (length (halo_rules.lanes s from to)) 8 (omega arith) in
        (r.full full).0 ∙ sym (ap (λ b. cond b 1 0) (and_right (is_lane from to) _ no_room))
  ],
  ap (λ l. l.frames) stays ∙ eight,
)

-- no other code is in the table
code_at_most_2 : (n : ℕ) → entry (n % length script_table) ≤ 2
code_at_most_2 n = All-get_or (λ x. x ≤ 2) script_table (n % length script_table) 0 (omega arith) (search arith)

-- a put to a script over that appends as many as the table says, by the put's number
by_code : (n : ℕ) (s : Quota Queue) (from to : ℕ) (f : Frame) (k : ℕ) (t : Quota Queue) → limit_of s ≡ 8
    → Scripted halo_rules.lanes halo_rules.puts (entry (n % length script_table)) s from to f k t
    → (k ≡ rough n (halo_rules.lanes s) from to f) × (limit_of t ≡ 8)
by_code n s from to f k t eight r =
    let code = entry (n % length script_table) in
    elim (cases_eq code 0) [
      | inl e ↦ rw (eq-eqb code 0 e) (rationed s from to f k t eight (r.passed e))
      | inr d ↦ elim (cases_eq code 1) [
        | inl e ↦
            let (none, same) = r.dropped e in
            rw (ne_eqb code 0 d, eq-eqb code 1 e) (none, ap limit_of same ∙ eight)
        | inr c ↦
            let v = r.doubled (omega (arith, code_at_most_2 n)) in
            let (one, between) = rationed s from to f v.one v.between eight v.earlier in
            let (two, after) = rationed v.between from to f v.two t between v.later in
            let as_many = v.sum ∙ ap₂ (λ x y. x + y) one
            (two ∙ ap (λ l. queue_count l from to) (v.after_one ∙ ap (appended (halo_rules.lanes s) from to f) one)) in
            rw (ne_eqb code 0 d, ne_eqb code 1 c) (as_many, after)
      ]
    ]

-- the same frames wait in both, and the limit is 8
abbrev SamePlain : CountedLanes → Quota Queue → Type 0
SamePlain x s = (x.lanes ≡ halo_rules.lanes s) × (limit_of s ≡ 8)

plain_kept : (c : Call) (x : CountedLanes) (s : Quota Queue) (y : CountedLanes) (t : Quota Queue) → SamePlain x s
    → Leads (computed_rules plain) c x y → Leads halo_rules c s t → SamePlain y t
plain_kept (take_call from to) x s y t (same, eight) (after, _) (after', (stays, _)) =
    (after ∙ ap (λ l. shortened l from to) same ∙ sym after', ap (λ l. l.frames) stays ∙ eight)
plain_kept (put_call from to f) x s y t (same, eight) (k, after, (_, count)) (k', after', put) =
    let (count', still) = rationed s from to f k' t eight put in
    let as_many = count ∙ ap (λ l. queue_count l from to) same ∙ sym count' in
    (after ∙ ap₂ (λ l n. appended l from to f n) same as_many ∙ sym after', still)

pub plain_looks_alike : (d : Quota Queue) → IsOpened d → LooksLike (computed_rules plain) fresh_lanes halo_rules d
plain_looks_alike d opened =
    alike (computed_rules plain) halo_rules SamePlain (λ x s same. same.0) plain_kept fresh_lanes d
    (sym opened.empty, opened.limit)

-- and the script's next number is that of the puts made so far
abbrev SameRough : CountedLanes → Script (Quota Queue) → Type 0
SameRough x s = SamePlain x (below_script s) × (next_of s ≡ x.puts % length script_table)

rough_kept : (c : Call) (x : CountedLanes) (s : Script (Quota Queue)) (y : CountedLanes)
    (t : Script (Quota Queue)) → SameRough x s
    → Leads (computed_rules rough) c x y → Leads rough_rules c s t → SameRough y t
rough_kept (take_call from to) x s y t ((same, eight), next) (after, puts) (after', (stays, (limit, _))) = (
  (after ∙ ap (λ l. shortened l from to) same ∙ sym after', ap (λ l. l.frames) limit ∙ eight),
  stays ∙ next ∙ ap (λ n. n % length script_table) (sym puts),
)
rough_kept (put_call from to f) x s y t ((same, eight), next) (k, after, (puts, count)) (k', after', (moves, r)) =
    let by_number = subst (λ i. Scripted halo_rules.lanes halo_rules.puts (entry i) s.below from to f k' t.below) next r
    in
    let (count', still) = by_code x.puts s.below from to f k' t.below eight by_number in
    let as_many = count ∙ ap (λ l. rough x.puts l from to f) same ∙ sym count' in (
      (after ∙ ap₂ (λ l n. appended l from to f n) same as_many ∙ sym after', still),
      moves
          ∙ ap entry_after next
          ∙ mod-add-mod x.puts (length script_table) 1
          ∙ ap (λ n. n % length script_table) (sym puts),
    )

pub rough_looks_alike : (d : Script (Quota Queue)) → next_of d ≡ 0 → IsOpened (below_script d)
    → LooksLike (computed_rules rough) fresh_lanes rough_rules d
rough_looks_alike d first opened =
    alike (computed_rules rough) rough_rules SameRough (λ x s same. same.0.0) rough_kept fresh_lanes d
    ((sym opened.empty, opened.limit), first)
