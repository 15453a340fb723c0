-- The table computes, and the programs print what it shows.
use Rattle.std.proofs.Common.{◌≡◌, List, ℕ, refl, ap, ◌∙◌, arith}
use Rattle.std.specs.Fmt.{digits}
use Rattle.element.specs.Models.{force_algebra, depth_algebra}
use Rattle.cabinet.specs.Programs.{HaloPage, RoughPage}
use Rattle.readings.specs.Answers.{Answer, lists, list_over}
use Rattle.readings.specs.Bytes.{triangles, empty_scene}
use Rattle.readings.specs.Media.{Medium, plain, rough}
use Rattle.readings.specs.Pages.{page_over}
use Rattle.readings.specs.Readings.{Readings, WorkedPages, PrintsOnly, two_triangles, smallest}
use Rattle.readings.proofs.Told.{pages_are_computed, page_of_forces, page_of_depths}
use Rattle.readings.proofs.readings.readings_stand.Goals as goal

examples : Readings
unfolding digits
examples = refl

-- a program whose pages are computed over a medium prints what is listed over it
module _ (Page : List ℕ → List ℕ → Type 0) (medium : Medium)
    (computed : (bytes page : List ℕ) → Page bytes page → page ≡ page_over medium bytes) (listed : Answer) where
  triangles_print : list_over depth_algebra medium two_triangles ≡ listed → PrintsOnly Page (triangles 2 0 4) listed
  triangles_print is page p =
      let depths = page_of_depths medium (triangles 2 0 4) refl (omega arith) (omega arith) refl in
      ap lists (computed (triangles 2 0 4) page p ∙ depths) ∙ is

  smallest_prints : list_over force_algebra medium smallest ≡ listed → PrintsOnly Page empty_scene listed
  smallest_prints is page p =
      let forces = page_of_forces medium empty_scene refl (omega arith) (omega arith) refl in
      ap lists (computed empty_scene page p ∙ forces) ∙ is

pages : WorkedPages
unfolding digits
pages = record {
  halo_triangles = triangles_print HaloPage plain pages_are_computed.halo_pages _ refl;
  rough_triangles = triangles_print RoughPage rough pages_are_computed.rough_pages _ refl;
  halo_smallest = smallest_prints HaloPage plain pages_are_computed.halo_pages _ refl;
  rough_smallest = smallest_prints RoughPage rough pages_are_computed.rough_pages _ refl;
}

pub returns-clause-readings : goal.returns-clause-readings
returns-clause-readings c = examples

pub returns-clause-pages : goal.returns-clause-pages
returns-clause-pages c = pages
