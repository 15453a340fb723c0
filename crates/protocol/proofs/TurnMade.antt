-- Receiving, then sending, is a turn.
use Rattle.std.proofs.Common.{◌≡◌, ℕ, ◌-◌, ◌<◌, Bool, cond, ◌&&◌, ◌||◌, eqb, ◌≢◌, List, ◌++◌, length, replicate, sym}
use Rattle.std.proofs.Common.{ap, ◌∙◌, ap₂, inl, inr, arith}
use Rattle.std.proofs.lemmas.Bool.{cases_eq}
use Rattle.element.specs.Algebra.{Algebra}
use Rattle.medium.specs.Lanes.{Lanes}
use Rattle.plan.specs.Links.{Shape, shape}
use Rattle.plan.specs.declared.records.Edge.{Edge}
use Rattle.protocol.specs.declared.table.Link.{Link}
use Rattle.protocol.specs.declared.tally.Tally.{Tally}
use Rattle.protocol.specs.Turns.{Turned, wants, owes, left}
use Rattle.protocol.specs.Runs.{Moment, seen, counts}
use Rattle.protocol.specs.Steps.{Received, Sent, received, due, due_frame}
use Rattle.protocol.proofs.Received.{Below, sum_others_same}

module _ {M : Type 0} (A : Algebra M) (boards : ℕ) (edges : List Edge) (p : ℕ) (pb : p < boards) where
  abbrev P : Shape
  P = shape boards edges

  module _ (tally tally' : Tally) (links : List Link) (copies : List M) (lanes lanes' : Lanes) (got : List Bool)
      (r : Received M) (v : Below A boards edges p (received links copies 0 lanes 0 got) boards r)
      (made dropped : ℕ)
      (w : Sent p (due A boards edges p r.held.links r.got)
      (due_frame A boards edges p r.held.links r.held.copies) r.lanes boards lanes' made dropped)
    where
      abbrev m : Moment M
      m = record { tally = tally; links = links; copies = copies; lanes = lanes }

      abbrev m' : Moment M
      m' = record { tally = tally'; links = r.held.links; copies = r.held.copies; lanes = lanes' }

      same_out : (q : ℕ) → q ≢ p → r.lanes p q ≡ lanes p q
      same_out q d = v.lanes_rest p q (inl d)

      pub same_due : (q : ℕ) → q < boards → q ≢ p → due A boards edges p r.held.links r.got q ≡ owes A P
          (seen A m) (seen A m') p q
      same_due q l d = ap (λ b. wants A P (seen A m) (seen A m') p q || b) (v.got_own q l d)

      same_left : (q : ℕ) → q ≢ p → length (lanes' p q) - length (r.lanes p q) ≡ left A P (seen A m) (seen A m') p q
      same_left q d = ap (λ x. length (lanes' p q) - length x) (same_out q d)

      pub turn_made : Turned A P (seen A m) (seen A m') p
      turn_made = record {
        i_own = v.i_own;
        i_rest = v.i_rest;
        j_own = v.j_own;
        j_rest = v.j_rest;
        val_is = v.copied;
        taken = λ q l d. w.rest q p (inl d) ∙ v.emptied_own q l d;
        sent = λ q l d. w.sent q l d
            ∙ ap (λ x. x ++ replicate (length (lanes' p q) - length x)
            (due_frame A boards edges p r.held.links r.held.copies q)) (same_out q d);
        still = λ q l d e.
            let unchanged = w.still q l d (same_due q l d ∙ e) ∙ same_out q d in
            omega (arith, ap length unchanged);
        lane_rest = λ a b h. elim h [
          | inl x ↦ w.rest a b (inl x.0) ∙ v.lanes_rest a b (inl x.1)
          | inr y ↦ elim y [
            | inl e ↦ elim (cases_eq a p) [
              | inl f ↦ w.rest a b (inr (inl (sym e ∙ f))) ∙ v.lanes_rest a b (inr (inl f))
              | inr f ↦ w.rest a b (inl f) ∙ v.lanes_rest a b (inl (λ z. f (e ∙ z)))
            ]
            | inr z ↦ elim z [
              | inl f ↦ w.rest a b (inl (λ e. omega arith)) ∙ v.lanes_rest a b (inr (inr f))
              | inr f ↦ w.rest a b (inr (inr f)) ∙ v.lanes_rest a b (inl (λ e. omega arith))
            ]
          ]
        ];
      }

      pub taken_counted : r.taken ≡ (counts A P (seen A m) (seen A m') p).taken
      taken_counted = omega (arith, v.frames)

      pub accepted_counted : r.held.accepted ≡ (counts A P (seen A m) (seen A m') p).accepted
      accepted_counted = omega (arith, v.items_in)

      pub puts_counted : made ≡ (counts A P (seen A m) (seen A m') p).puts
      puts_counted = w.made_is ∙ sum_others_same p boards _ _ (λ q l d. ap (λ b. cond {A = ℕ} b 1 0) (same_due q l d))

      pub lost_counted : dropped ≡ (counts A P (seen A m) (seen A m') p).lost
      lost_counted = w.lost_is
          ∙ sum_others_same p boards _ _ (λ q l d.
          ap₂ (λ b x. cond {A = ℕ} (b && eqb x 0) 1 0) (same_due q l d) (same_left q d))
