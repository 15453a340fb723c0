-- What a put and a take make of a script, by the rules of the medium below it.
use Rattle.std.specs.Prelude.{◌≡◌, ℕ, ◌%◌, List, length, count_by}
use Rattle.medium.specs.Calls.{Rules, rules_of, Call, Calls, is_put}
use Rattle.medium.specs.Fates.{entry, entry_after, script_table}
use Rattle.medium.specs.Lanes.{Lanes}
use Rattle.medium.specs.Puts.{Puts, Scripted, Takes}
use Rattle.medium.specs.declared.frame.Frame.{Frame}
use Rattle.medium.specs.declared.script.Script.{Script}

-- the medium that a script stands on
abbrev pub below_script : {M : Type 0} → Script M → M
below_script s = s.below

-- the number of the next put, modulo the table's length
abbrev pub next_of : {M : Type 0} → Script M → ℕ
next_of s = s.next

-- the lanes are those of the medium below
abbrev pub script_lanes : {M : Type 0} → (M → Lanes) → Script M → Lanes
script_lanes lanes s = lanes (below_script s)

-- a take uses up no entry, and is one from the medium below
abbrev pub script_takes : {M : Type 0} → Takes M → Takes (Script M)
script_takes takes s from to t = (next_of t ≡ next_of s) × takes (below_script s) from to (below_script t)

-- every put moves on by one entry, and follows the entry that it met
abbrev pub script_puts : {M : Type 0} → (M → Lanes) → Puts M → Puts (Script M)
script_puts lanes puts s from to f k t =
    (next_of t ≡ entry_after (next_of s))
    × Scripted lanes puts (entry (next_of s)) (below_script s) from to f k (below_script t)

-- the rules of a script over a medium of these rules
abbrev pub script_rules : {M : Type 0} → Rules M → Rules (Script M)
script_rules R = rules_of (script_lanes R.lanes) (script_takes R.takes) (script_puts R.lanes R.puts)

-- after any calls, the next put follows the table's entry at the number of puts among them
abbrev pub FollowsTheTable : {M : Type 0} → Rules M → Script M → Type 0
FollowsTheTable {M} R s = (cs : List Call) (t u : Script M) (from to : ℕ) (f : Frame) (k : ℕ)
    → Calls (script_rules R) s cs t → (script_rules R).puts t from to f k u
    → Scripted R.lanes R.puts (entry (count_by is_put cs % length script_table)) (below_script t) from to f k
    (below_script u)
