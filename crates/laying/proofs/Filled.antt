-- Lists of records appended one after another.
use Rattle.std.proofs.Common.{◌≡◌, ℕ, ◌+◌, ◌<◌, ◌≤◌, List, [], ◌++◌, length, take, drop, get_or}
use Rattle.std.proofs.Common.{sym, refl, ap, ◌∙◌}
use Rattle.std.proofs.Common.{add-zero, arith}
use Rattle.std.specs.List.{flat_map}
use Rattle.std.proofs.lemmas.List.{length-append, length-take-le, length-drop}
use Rattle.laying.specs.Filled.{HasRoom, Appends}
use Rattle.laying.specs.Rows.{lists_below, placed}
use Rattle.laying.specs.declared.filling.Filling.{Filling}
use Rattle.laying.proofs.Gather.{lists_below_more, room, placed_none, placed_front, placed_more}
use Rattle.laying.proofs.Joined.{joined_more, joined_room}

module _ {X : Type 0} where
  pub appends_none : (f : Filling X) → Appends f f []
  appends_none f =
      record {
        len = sym (add-zero f.len);
        written = sym (placed_none f.out.now f.len);
        same = refl;
      }

  length_placed : (xs ys : List X) (k : ℕ) → k + length ys ≤ length xs → length (placed xs k ys) ≡ length xs
  length_placed xs ys k h =
      omega (
        arith,
        length-append (take k xs) (ys ++ drop (k + length ys) xs),
        length-append ys (drop (k + length ys) xs),
        length-take-le k xs (omega arith),
        length-drop (k + length ys) xs,
      )

  -- where xs were appended, ys follow
  module _ (f g : Filling X) (xs ys : List X) where
    room_behind : f.len + (length xs + length ys) ≤ length f.out.now → Appends f g xs → HasRoom g ys
    room_behind fits a =
        omega (arith, a.len, ap length a.written, length_placed f.out.now xs f.len (omega arith))

    appends_both : f.len ≤ length f.out.now → (k : Filling X) → Appends f g xs → Appends g k ys
        → Appends f k (xs ++ ys)
    appends_both fits k a b =
        record {
          len = omega (arith, a.len, b.len, length-append xs ys);
          written =
              b.written
              ∙ ap (λ m. placed m g.len ys) a.written
              ∙ ap (λ m. placed (placed f.out.now f.len xs) m ys) a.len
              ∙ placed_more f.out.now xs ys f.len fits;
          same = b.same ∙ a.same;
        }

  -- where the lists below i were appended, list number i follows
  module _ (h : ℕ → List X) (i n : ℕ) (f g : Filling X) where
    pub room_left : i < n → HasRoom f (lists_below h n) → Appends f g (lists_below h i) → HasRoom g (h i)
    room_left l fits a =
        let left = room h i n l in
        room_behind f g (lists_below h i) (h i) (omega arith) a

    pub appends_more : i < n → HasRoom f (lists_below h n) → (k : Filling X) → Appends f g (lists_below h i)
        → Appends g k (h i) → Appends f k (lists_below h (i + 1))
    appends_more l fits k a b =
        rw (lists_below_more h i) (appends_both f g (lists_below h i) (h i) (omega arith) k a b)

  -- where the lists of the elements before place i were appended, that of the element there follows
  module _ {Y : Type 0} (h : Y → List X) (ys : List Y) (i : ℕ) (y : Y) (low : i < length ys) (is : y ≡ get_or ys i y)
      (f g : Filling X) where
    pub room_next : HasRoom f (flat_map h ys) → Appends f g (flat_map h (take i ys)) → HasRoom g (h y)
    room_next fits a =
        let left = joined_room h ys i y low is in
        room_behind f g (flat_map h (take i ys)) (h y) (omega arith) a

    pub appends_next : HasRoom f (flat_map h ys) → (k : Filling X) → Appends f g (flat_map h (take i ys))
        → Appends g k (h y) → Appends f k (flat_map h (take (i + 1) ys))
    appends_next fits k a b =
        rw (joined_more h ys i y low is) (appends_both f g (flat_map h (take i ys)) (h y) (omega arith) k a b)

  -- memory filled from its start on
  pub filled : (f g : Filling X) (xs ys : List X) → f.len ≡ 0 → f.out.now ≡ xs → Appends f g ys
      → g.out.now ≡ ys ++ drop (length ys) xs
  filled f g xs ys none kept a =
      a.written ∙ ap (λ m. placed m f.len ys) kept ∙ ap (λ m. placed xs m ys) none ∙ placed_front xs ys
