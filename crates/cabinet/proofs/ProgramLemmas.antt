-- The media of the programs, opened empty, hide nothing: so there is one page for the same bytes.
use Rattle.std.proofs.Common.{◌≡◌, ℕ, List, sym, ap, ◌∙◌}
use Rattle.medium.specs.Calls.{LooksLike, FillsEmptyLanes}
use Rattle.medium.specs.Held.{queue_rules}
use Rattle.medium.specs.Quotas.{below_quota}
use Rattle.medium.specs.declared.queue.Queue.{Queue}
use Rattle.medium.specs.declared.quota.Quota.{Quota}
use Rattle.medium.proofs.Queues.{queues_alike, queues_fill}
use Rattle.medium.proofs.Quotas.{quotas_alike, quota_fills}
use Rattle.medium.proofs.Scripts.{scripts_alike}
use Rattle.medium.specs.Scripts.{below_script, next_of}
use Rattle.medium.specs.declared.script.Script.{Script}
use Rattle.cabinet.specs.Listed.{PageTold}
use Rattle.cabinet.specs.Programs.{halo_rules, rough_rules, IsOpened, HaloPage, RoughPage, IsOnePage, AlwaysSettles}
use Rattle.cabinet.proofs.Settles.{always_settles}
use Rattle.cabinet.proofs.OnePage.{pages_are_one}

opened_alike : (d e : Quota Queue) → IsOpened d → IsOpened e → LooksLike halo_rules d halo_rules e
opened_alike d e u v =
    quotas_alike queue_rules queue_rules d e (u.limit ∙ sym v.limit)
    (queues_alike (below_quota d) (below_quota e) (u.empty ∙ sym v.empty))

pub one_halo_page : IsOnePage HaloPage
one_halo_page bytes x y u v =
    pages_are_one halo_rules halo_rules u.medium v.medium (opened_alike u.medium v.medium u.opened v.opened) bytes x y
    u.told v.told

pub one_rough_page : IsOnePage RoughPage
one_rough_page bytes x y u v =
    pages_are_one rough_rules rough_rules u.medium v.medium
    (scripts_alike halo_rules halo_rules u.medium v.medium (u.first ∙ sym v.first)
    (opened_alike _ _ u.opened v.opened)) bytes x y u.told v.told

pub halo_fills : FillsEmptyLanes halo_rules
halo_fills = quota_fills queue_rules queues_fill

-- what is told of a run over the opened media, in the words of the programs
module _ (bytes page : List ℕ) where
  pub is_halo_page : (d : Quota Queue) → IsOpened d → PageTold halo_rules bytes d page → HaloPage bytes page
  is_halo_page d opened told = record { medium = d; opened = opened; told = told }

  pub halo_settles : (d : Quota Queue) → IsOpened d → PageTold halo_rules bytes d page → AlwaysSettles bytes page
  halo_settles d opened told =
      always_settles halo_rules halo_fills d (λ a b. ap (λ l. l a b) opened.empty) page bytes told

  pub is_rough_page : (script : Script (Quota Queue)) → IsOpened (below_script script) → next_of script ≡ 0
      → PageTold rough_rules bytes script page → RoughPage bytes page
  is_rough_page script opened first told = record { medium = script; first = first; opened = opened; told = told }
