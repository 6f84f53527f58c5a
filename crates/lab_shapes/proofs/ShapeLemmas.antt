-- The geometry that is tried is the one that fits, if one does.
use Rattle.std.proofs.Common.{◌≡◌, ◌⊎◌, ℕ, ◌+◌, ◌*◌, ◌-◌, ◌/◌, ◌%◌, ◌<◌, ◌≤◌, cond, List, length, Option, Some, None, inl, inr, refl, sym, ap, ◌∙◌, subst, mul_assoc, add-mul, one-mul, arith}
use Rattle.std.specs.Prelude.{Result, Ok, Err, IfOk, IsOk}
use Rattle.std.specs.Option.{unwrap_or}
use Rattle.std.specs.Result.{result_ok}
use Rattle.std.proofs.lemmas.Nat.{div-add-mod', div-mul-add, mod-mul-add, mod_below, mul-lt}
use Rattle.page_layout.specs.declared.geometry.GeometryFault.{GeometryFault}
use Rattle.std.proofs.Math.Nat.{mul-div_cancel, mul-mod_left}
use Rattle.std.proofs.lemmas.Bool.{cases_lt, le-leb, lt-leb, true≢false}
use Rattle.std.proofs.lemmas.Option.{none-some}
use Rattle.page_layout.specs.declared.geometry.Geometry.{Geometry}
use Rattle.page_layout.specs.Geometry.{page_bytes, row_count}
use Rattle.page_layout.specs.Limits.{IsBlockCount, IsDataSize, IsPageCount, IsSpareSize, IsWithinLimits}
use Rattle.page_layout.specs.Faults.{HasNumbers}
use Rattle.lab_dump.specs.declared.fit.Fit.{Fit}
use Rattle.lab_dump.specs.Scan.{image_bytes}
use Rattle.lab_dump.proofs.GeometryLemmas.{geometry_by}
use Rattle.lab_arrange.specs.declared.arrangement.Arrangement.{Arrangement}
use Rattle.lab_arrange.specs.Place.{length_of}
use Rattle.lab_shapes.specs.declared.find.ArrangedFit.{ArrangedFit}
use Rattle.lab_shapes.specs.declared.tried.Way.{Way}
use Rattle.lab_shapes.specs.declared.tried.Way.TheVariants.{Cut, Order}
use Rattle.lab_shapes.specs.Tried.{IsOfWay, IsTried, IsTriedWay, IsUncut, cut_by}
use Rattle.lab_shapes.specs.Ordered.{in_turn_of, ordered}
use Rattle.lab_shapes.specs.Arranged.{FitsArranged, FitsAs, IsCutShort, fit_in_order}
use Rattle.lab_shapes.specs.Better.{Improves, InShape, IsFoundAs, IsShapeAs, IsShapeIn, IsArrangedShapeOf, least_turns, pages_size}
use Rattle.lab_shapes.proofs.BetterLemmas.{improves_as, improves_fewer, improves_none}
use Rattle.lab_shapes.proofs.TriedLemmas.{tried_of_way}

-- ---- a geometry is its numbers

pub numbered_once : (d s p b n : ℕ) (g h : Geometry) → HasNumbers d s p b n g → HasNumbers d s p b n h → g ≡ h
numbered_once d s p b n g h x y =
    geometry_by g h (x.data_bytes_is ∙ sym y.data_bytes_is) (x.spare_bytes_is ∙ sym y.spare_bytes_is) (x.pages_is ∙ sym y.pages_is) (x.blocks_is ∙ sym y.blocks_is) (x.sectors_is ∙ sym y.sectors_is)

-- the blocks, by the bytes of all pages
blocks_by : (g : Geometry) → image_bytes g / page_bytes g / g.pages ≡ g.blocks
blocks_by g =
    let some : 0 < page_bytes g = (let l = g.limits.data_size.least in omega arith) in
    let pages : 0 < g.pages = (let l = g.limits.page_count.least in omega arith) in
    ap (λ n. n / g.pages) (mul-div_cancel (row_count g) some) ∙ mul-div_cancel g.blocks pages

-- one of these sizes that comes to so many bytes
pub record IsWhole (bytes d s p : ℕ) (g : Geometry) : Type 0 where
  pub pages : bytes % (d + s) ≡ 0
  pub blocks : bytes / (d + s) % p ≡ 0
  pub count : g.blocks ≡ bytes / (d + s) / p

pub whole_of : (g : Geometry) (bytes d s p : ℕ) → g.data_bytes ≡ d → g.spare_bytes ≡ s → g.pages ≡ p → image_bytes g ≡ bytes → IsWhole bytes d s p g
whole_of g bytes d s p de se pe whole =
    let area : page_bytes g ≡ d + s = omega arith in
    let some : 0 < page_bytes g = (let l = g.limits.data_size.least in omega arith) in
    let rows : bytes / (d + s) ≡ row_count g = ap (λ n. bytes / n) (sym area) ∙ (ap (λ n. n / page_bytes g) (sym whole) ∙ mul-div_cancel (row_count g) some) in
    record {
      pages = ap (λ n. bytes % n) (sym area) ∙ (ap (λ n. n % page_bytes g) (sym whole) ∙ mul-mod_left (row_count g) (page_bytes g));
      blocks = ap (λ n. n % p) rows ∙ (ap (λ n. row_count g % n) (sym pe) ∙ mul-mod_left g.blocks g.pages);
      count = sym (blocks_by g) ∙ (ap (λ n. n / page_bytes g / g.pages) whole ∙ (ap (λ n. bytes / n / g.pages) area ∙ ap (λ n. bytes / (d + s) / n) pe));
    }

-- its numbers are within the limits, with one sector too
pub limits_of : (g : Geometry) (bytes d s p : ℕ) → g.data_bytes ≡ d → g.spare_bytes ≡ s → g.pages ≡ p → image_bytes g ≡ bytes → IsWithinLimits d s p (bytes / (d + s) / p) 1
limits_of g bytes d s p de se pe whole =
    let count = (whole_of g bytes d s p de se pe whole).count in
    record {
      data_size = subst IsDataSize de g.limits.data_size;
      spare_size = subst IsSpareSize se g.limits.spare_size;
      page_count = subst IsPageCount pe g.limits.page_count;
      block_count = subst (λ n. IsBlockCount d p n) count (subst (λ n. IsBlockCount d n g.blocks) pe (subst (λ n. IsBlockCount n g.pages g.blocks) de g.limits.block_count));
      sector_count = record { least = omega arith; most = omega arith };
    }

-- ---- the bytes of its pages

pages_when : (g : Geometry) (a : Arrangement) (size : ℕ) → a.cut ≡ None → size ≡ length_of g a → pages_size size a ≡ Some (image_bytes g)
pages_when g a size cut is =
    let around : ℕ = unwrap_or a.header 0 + unwrap_or a.tail 0 in
    let none : unwrap_or a.cut 0 ≡ 0 = ap (λ c. unwrap_or c 0) cut in
    let room : around ≤ size = omega arith in
    let less : size - around ≡ image_bytes g = omega arith in
    ap (λ b. cond b (Some (size - around)) None) (le-leb around size room) ∙ ap Some less

some_in : (m n : ℕ) → Some m ≡ Some n → m ≡ n
some_in m n e = ap (λ o. unwrap_or o m) e

-- a size that has room for what stands around them is all of it
pages_back : (g : Geometry) (a : Arrangement) (size : ℕ) → a.cut ≡ None → pages_size size a ≡ Some (image_bytes g) → length_of g a ≡ size
pages_back g a size cut is = by (cases_lt size around)
  where
    around : ℕ
    around = unwrap_or a.header 0 + unwrap_or a.tail 0

    by : (size < around) ⊎ (around ≤ size) → length_of g a ≡ size
    by (inr l) =
        let none : unwrap_or a.cut 0 ≡ 0 = ap (λ c. unwrap_or c 0) cut in
        let less : size - around ≡ image_bytes g = some_in _ _ (sym (ap (λ b. cond b (Some (size - around)) None) (le-leb around size l)) ∙ is) in
        omega (arith, none, less)
    by (inl l) = absurd (none-some (image_bytes g) (sym (ap (λ b. cond b (Some (size - around)) None) (lt-leb around size l)) ∙ is))

-- ---- the shape of one that fits

pub shape_of : (all : List ℕ) (w : Way) (y : ArrangedFit) (size d s p : ℕ) → size ≡ length all → (h : InShape all w d s p y) → IsArrangedShapeOf size w d s p h.0.0.0.0.geometry y.arrangement
shape_of all w y size d s p e h =
    let fits = h.0.0.0.0 in
    record {
      of_way = h.0.0.0.1;
      short = fits.short;
      whole = sym fits.fits.whole ∙ sym e;
      data_is = sym (ap (λ f. f.data_bytes) fits.fits.fit_is) ∙ h.0.0.1;
      spare_is = sym (ap (λ f. f.spare_bytes) fits.fits.fit_is) ∙ h.0.1;
      pages_is = sym (ap (λ f. f.pages) fits.fits.fit_is) ∙ h.1;
      sector = fits.sector;
    }

-- two of one size, of the same areas and as many blocks, are one
same_shape : (w v : Way) (size d s p : ℕ) (g h : Geometry) (a b : Arrangement) → IsArrangedShapeOf size w d s p g a → IsArrangedShapeOf size v d s p h b → g.blocks ≡ h.blocks → g ≡ h
same_shape w v size d s p g h a b x y e =
    geometry_by g h (x.data_is ∙ sym y.data_is) (x.spare_is ∙ sym y.spare_is) (x.pages_is ∙ sym y.pages_is) e (x.sector ∙ sym y.sector)

-- in an order of the bytes
pub order_pages : (b : Arrangement) (size d s p : ℕ) (g : Geometry) (a : Arrangement) → IsUncut b → IsArrangedShapeOf size (Order b) d s p g a → pages_size size b ≡ Some (image_bytes g)
order_pages b size d s p g a tried x =
    let cut : a.cut ≡ None = ap (λ z. z.cut) x.of_way ∙ tried.whole in
    ap (pages_size size) (sym x.of_way) ∙ pages_when g a size cut (sym x.whole)

order_blocks : (b : Arrangement) (size d s p : ℕ) (g h : Geometry) (a c : Arrangement) → IsUncut b → IsArrangedShapeOf size (Order b) d s p g a → IsArrangedShapeOf size (Order b) d s p h c → g.blocks ≡ h.blocks
order_blocks b size d s p g h a c tried x y =
    let bytes : image_bytes g ≡ image_bytes h = some_in _ _ (sym (order_pages b size d s p g a tried x) ∙ order_pages b size d s p h c tried y) in
    let area : page_bytes g ≡ page_bytes h = (let e = x.data_is in let f = y.data_is in let i = x.spare_is in let j = y.spare_is in omega arith) in
    sym (blocks_by g) ∙ (ap (λ n. n / page_bytes g / g.pages) bytes ∙ (ap (λ n. image_bytes h / n / g.pages) area ∙ (ap (λ n. image_bytes h / page_bytes h / n) (x.pages_is ∙ sym y.pages_is) ∙ blocks_by h)))

-- ---- where a part of the last block was cut off

-- the whole blocks, and the bytes of the last one that are there
pub record HasBlocks (size block n : ℕ) (g : Geometry) (a : Arrangement) : Type 0 where
  pub is : a ≡ cut_by n
  pub some : 0 < n
  pub few : n < block
  pub count : size / block ≡ g.blocks - 1
  pub there : size % block ≡ block - n

block_is : (g : Geometry) (d s p : ℕ) → g.data_bytes ≡ d → g.spare_bytes ≡ s → g.pages ≡ p → g.pages * page_bytes g ≡ p * (d + s)
block_is g d s p e f h =
    let area : page_bytes g ≡ d + s = omega (arith, e, f) in
    ap (λ n. n * page_bytes g) h ∙ ap (λ n. p * n) area

-- the bytes of all but the last block, and of that one
last_block : (b p m : ℕ) → 0 < b → b * p * m ≡ (b - 1) * (p * m) + p * m
last_block b p m l =
    let less : b ≡ b - 1 + 1 = omega arith in
    mul_assoc b p m ∙ (ap (λ k. k * (p * m)) less ∙ (add-mul (b - 1) 1 (p * m) ∙ ap (λ k. (b - 1) * (p * m) + k) (one-mul (p * m))))

pub cut_blocks : (size d s p : ℕ) (g : Geometry) (a : Arrangement) → (x : IsArrangedShapeOf size Cut d s p g a) → HasBlocks size (p * (d + s)) x.of_way.0 g a
cut_blocks size d s p g a x =
    let n = x.of_way.0 in
    let block = block_is g d s p x.data_is x.spare_is x.pages_is in
    let blocks : 0 < g.blocks = (let l = g.limits.block_count.least in omega arith) in
    let is = x.of_way.3 in
    let cut : unwrap_or a.cut 0 ≡ n = ap (λ z. unwrap_or z.cut 0) is in
    let header : unwrap_or a.header 0 ≡ 0 = ap (λ z. unwrap_or z.header 0) is in
    let tail : unwrap_or a.tail 0 ≡ 0 = ap (λ z. unwrap_or z.tail 0) is in
    let few : n < p * (d + s) = omega (arith, x.short, cut, block) in
    let image : image_bytes g ≡ (g.blocks - 1) * (p * (d + s)) + p * (d + s) = last_block g.blocks g.pages (page_bytes g) blocks ∙ ap (λ k. (g.blocks - 1) * k + k) block in
    let left : size ≡ (g.blocks - 1) * (p * (d + s)) + (p * (d + s) - n) = omega (arith, x.whole, image, cut, header, tail, few) in
    let less : p * (d + s) - n < p * (d + s) = (let l = x.of_way.1 in omega (arith, few)) in
    record {
      is = is;
      some = x.of_way.1;
      few = few;
      count = ap (λ k. k / (p * (d + s))) left ∙ div-mul-add (g.blocks - 1) (p * (d + s)) (p * (d + s) - n) less;
      there = ap (λ k. k % (p * (d + s))) left ∙ mod-mul-add (g.blocks - 1) (p * (d + s)) (p * (d + s) - n) less;
    }

-- ---- there is one

pub one_shape : (w : Way) (size d s p : ℕ) (g h : Geometry) (a b : Arrangement) → IsTriedWay w → IsArrangedShapeOf size w d s p g a → IsArrangedShapeOf size w d s p h b → (g ≡ h) × (a ≡ b)
one_shape (Order c) size d s p g h a b tried x y =
    (same_shape (Order c) (Order c) size d s p g h a b x y (order_blocks c size d s p g h a b tried x y), x.of_way ∙ sym y.of_way)
one_shape Cut size d s p g h a b tried x y =
    let k = cut_blocks size d s p g a x in
    let l = cut_blocks size d s p h b y in
    let some : 0 < g.blocks = (let m = g.limits.block_count.least in omega arith) in
    let too : 0 < h.blocks = (let m = h.limits.block_count.least in omega arith) in
    let blocks : g.blocks ≡ h.blocks = omega (arith, k.count, l.count, some, too) in
    let same : x.of_way.0 ≡ y.of_way.0 = omega (arith, k.there, l.there, k.few, l.few) in
    (same_shape Cut Cut size d s p g h a b x y blocks, k.is ∙ (ap cut_by same ∙ sym l.is))

-- ---- where nothing is tried

pub no_shape : (all : List ℕ) (w : Way) (size d s p : ℕ) (old : Option ArrangedFit) → size ≡ length all → IsShapeIn size w d s p None → Improves (InShape all w d s p) old old
no_shape all w size d s p old e none = improves_none (InShape all w d s p) old (λ y h. none h.0.0.0.0.geometry y.arrangement (shape_of all w y size d s p e h))

-- ---- where one is

-- what fits of these sizes is of that geometry, in that arrangement
of_shape : (all : List ℕ) (w : Way) (g : Geometry) (a : Arrangement) (y : ArrangedFit) (size d s p : ℕ) → IsTriedWay w → size ≡ length all → IsArrangedShapeOf size w d s p g a → (h : InShape all w d s p y) → (y.arrangement ≡ a) × FitsAs all g y
of_shape all w g a y size d s p tried e is h =
    let fits = h.0.0.0.0 in
    let one = one_shape w size d s p fits.geometry g y.arrangement a tried (shape_of all w y size d s p e h) is in
    (one.1, subst (λ k. FitsAs all k y) one.0 fits.fits)

pub none_fits : (all : List ℕ) (w : Way) (g : Geometry) (a : Arrangement) (size d s p : ℕ) (old : Option ArrangedFit) → IsTriedWay w → size ≡ length all → IsShapeIn size w d s p (Some (g, a)) → IsFoundAs all (least_turns old) g a None → Improves (InShape all w d s p) old old
none_fits all w g a size d s p old tried e is none =
    improves_fewer (InShape all w d s p) old (λ y h. (let k = of_shape all w g a y size d s p tried e is h in none y k.0 k.1))

abbrev fit_from : ℕ → Fit → Arrangement → ArrangedFit
fit_from t f a = record { in_turn = record { 0 = t }; fit = f; arrangement = a }

same_fit : (x y : ArrangedFit) → x.in_turn.0 ≡ y.in_turn.0 → x.fit ≡ y.fit → x.arrangement ≡ y.arrangement → x ≡ y
same_fit x y e f h =
    ap (λ t. fit_from t x.fit x.arrangement) e ∙ (ap (λ t. fit_from y.in_turn.0 t x.arrangement) f ∙ ap (λ t. fit_from y.in_turn.0 y.fit t) h)

-- what fits of a geometry in an arrangement is one
one_fit : (all : List ℕ) (g : Geometry) (x y : ArrangedFit) → x.arrangement ≡ y.arrangement → FitsAs all g x → FitsAs all g y → x ≡ y
one_fit all g x y same h k =
    same_fit x y (h.in_turn_is ∙ (ap (λ a. in_turn_of g (ordered g a all)) same ∙ sym k.in_turn_is)) (h.fit_is ∙ (ap (λ a. fit_in_order g (ordered g a all)) same ∙ sym k.fit_is)) same

-- and it is one of these sizes
in_shape : (all : List ℕ) (w : Way) (g : Geometry) (a : Arrangement) (x : ArrangedFit) (size d s p : ℕ) → IsTriedWay w → IsArrangedShapeOf size w d s p g a → x.arrangement ≡ a → FitsAs all g x → InShape all w d s p x
in_shape all w g a x size d s p tried is same h =
    let whole : FitsArranged all x = record { geometry = g; sector = is.sector; tried = subst IsTried (sym same) (tried_of_way w a tried is.of_way); short = subst (IsCutShort g) (sym same) is.short; fits = h } in
    ((((whole, subst (IsOfWay w) (sym same) is.of_way), ap (λ f. f.data_bytes) h.fit_is ∙ is.data_is), ap (λ f. f.spare_bytes) h.fit_is ∙ is.spare_is), ap (λ f. f.pages) h.fit_is ∙ is.pages_is)

pub one_fits : (all : List ℕ) (w : Way) (g : Geometry) (a : Arrangement) (x : ArrangedFit) (size d s p least : ℕ) (old new : Option ArrangedFit) → IsTriedWay w → size ≡ length all → IsShapeIn size w d s p (Some (g, a))
    → IsFoundAs all least g a (Some x) → Improves (λ y. y ≡ x) old new → Improves (InShape all w d s p) old new
one_fits all w g a x size d s p least old new tried e is found h =
    improves_as (λ y. y ≡ x) (InShape all w d s p) old new h
    (λ y same. subst (InShape all w d s p) (sym same) (in_shape all w g a x size d s p tried is found.0 found.1))
    (λ y k. (let of = of_shape all w g a y size d s p tried e is k in one_fit all g y x (of.0 ∙ sym found.0) of.1 found.1))

-- ---- whole blocks of whole pages are a geometry's bytes

whole_as : (g : Geometry) (bytes d s p b : ℕ) → HasNumbers d s p b 1 g → b ≡ bytes / (d + s) / p → bytes % (d + s) ≡ 0 → bytes / (d + s) % p ≡ 0 → image_bytes g ≡ bytes
whole_as g bytes d s p b is count pages blocks =
    let rows : ℕ = bytes / (d + s) in
    let area : page_bytes g ≡ d + s = (let x = is.data_bytes_is in let y = is.spare_bytes_is in omega arith) in
    let all_rows : rows / p * p ≡ rows = no_rest (rows / p * p) (rows % p) rows (div-add-mod' rows p) blocks in
    let all_bytes : rows * (d + s) ≡ bytes = no_rest (rows * (d + s)) (bytes % (d + s)) bytes (div-add-mod' bytes (d + s)) pages in
    ap (λ n. n * g.pages * page_bytes g) (is.blocks_is ∙ count) ∙ (ap (λ n. rows / p * n * page_bytes g) is.pages_is ∙ (ap (λ n. n * page_bytes g) all_rows ∙ (ap (λ n. rows * n) area ∙ all_bytes)))
  where
    no_rest : (x r n : ℕ) → x + r ≡ n → r ≡ 0 → x ≡ n
    no_rest x r n e z = omega arith

-- so there is one just where the numbers are within the limits
pub shape_result : (r : Result Geometry GeometryFault) (bytes d s p b : ℕ) → b ≡ bytes / (d + s) / p → bytes % (d + s) ≡ 0 → bytes / (d + s) % p ≡ 0
    → (IsWithinLimits d s p b 1 → IsOk r) → IfOk r (HasNumbers d s p b 1) → IsShapeAs bytes d s p (result_ok r)
shape_result (Ok g) bytes d s p b count pages blocks accepted is = (whole_as g bytes d s p b is count pages blocks, subst (λ n. HasNumbers d s p n 1 g) count is)
shape_result (Err f) bytes d s p b count pages blocks accepted is = λ g de se pe whole. true≢false (sym (accepted (subst (λ n. IsWithinLimits d s p n 1) (sym count) (limits_of g bytes d s p de se pe whole))))

-- ---- the shape in a way

pub some_bytes : (p m : ℕ) → 0 < p → 0 < m → 0 < p * m
some_bytes p m a b = mul-lt 0 0 p m a b

order_short : (g : Geometry) (a : Arrangement) → a.cut ≡ None → IsCutShort g a
order_short g a cut =
    let none : unwrap_or a.cut 0 ≡ 0 = ap (λ c. unwrap_or c 0) cut in
    let pages : 0 < g.pages = (let l = g.limits.page_count.least in omega arith) in
    let page : 0 < page_bytes g = (let l = g.limits.data_size.least in omega arith) in
    let some = some_bytes g.pages (page_bytes g) pages page in
    omega (arith, none, some)

pub order_no_room : (b : Arrangement) (size d s p : ℕ) → IsUncut b → pages_size size b ≡ None → IsShapeIn size (Order b) d s p None
order_no_room b size d s p tried none = λ g a x. none-some _ (sym none ∙ order_pages b size d s p g a tried x)

pub order_no_shape : (b : Arrangement) (size bytes d s p : ℕ) → IsUncut b → pages_size size b ≡ Some bytes → IsShapeAs bytes d s p None → IsShapeIn size (Order b) d s p None
order_no_shape b size bytes d s p tried some none = λ g a x. none g x.data_is x.spare_is x.pages_is (some_in _ _ (sym (order_pages b size d s p g a tried x) ∙ some))

pub order_shape : (b : Arrangement) (size bytes d s p : ℕ) (g : Geometry) → IsUncut b → pages_size size b ≡ Some bytes → IsShapeAs bytes d s p (Some g) → IsShapeIn size (Order b) d s p (Some (g, b))
order_shape b size bytes d s p g tried some is = record {
  of_way = refl;
  short = order_short g b tried.whole;
  whole = pages_back g b size tried.whole (some ∙ ap Some (sym is.0));
  data_is = is.1.data_bytes_is;
  spare_is = is.1.spare_bytes_is;
  pages_is = is.1.pages_is;
  sector = is.1.sectors_is;
}

-- with a part of the last block cut off there is none where all of it is there, or where the blocks are too many
pub cut_whole : (size d s p : ℕ) → size % (p * (d + s)) ≡ 0 → IsShapeIn size Cut d s p None
cut_whole size d s p none = λ g a x. (let k = cut_blocks size d s p g a x in absurd (omega (arith, none, k.there, k.few)))

pub cut_many : (size d s p : ℕ) → 4096 ≤ size / (p * (d + s)) → IsShapeIn size Cut d s p None
cut_many size d s p many = λ g a x. (let k = cut_blocks size d s p g a x in let l = g.limits.block_count.most in absurd (omega (arith, many, k.count, l)))

cut_limits : (size d s p : ℕ) (g : Geometry) (a : Arrangement) → IsArrangedShapeOf size Cut d s p g a → IsWithinLimits d s p (size / (p * (d + s)) + 1) 1
cut_limits size d s p g a x =
    let k = cut_blocks size d s p g a x in
    let some : 0 < g.blocks = (let m = g.limits.block_count.least in omega arith) in
    let count : g.blocks ≡ size / (p * (d + s)) + 1 = omega (arith, k.count, some) in
    record {
      data_size = subst IsDataSize x.data_is g.limits.data_size;
      spare_size = subst IsSpareSize x.spare_is g.limits.spare_size;
      page_count = subst IsPageCount x.pages_is g.limits.page_count;
      block_count = subst (λ n. IsBlockCount d p n) count (subst (λ n. IsBlockCount d n g.blocks) x.pages_is (subst (λ n. IsBlockCount n g.pages g.blocks) x.data_is g.limits.block_count));
      sector_count = record { least = omega arith; most = omega arith };
    }

pub cut_none : (r : Result Geometry GeometryFault) (size d s p : ℕ) → (IsWithinLimits d s p (size / (p * (d + s)) + 1) 1 → IsOk r) → result_ok r ≡ None → IsShapeIn size Cut d s p None
cut_none (Ok g) size d s p accepted none = absurd (none-some g (sym none))
cut_none (Err f) size d s p accepted none = λ g a x. true≢false (sym (accepted (cut_limits size d s p g a x)))

pub made_of : (r : Result Geometry GeometryFault) (g : Geometry) (P : Geometry → Type 0) → result_ok r ≡ Some g → IfOk r P → P g
made_of (Ok h) g P e k = subst P (geometry_in h g e) k
  where
    geometry_in : (x y : Geometry) → Some x ≡ Some y → x ≡ y
    geometry_in x y e = ap (λ o. unwrap_or o x) e
made_of (Err f) g P e k = absurd (none-some g e)

pub cut_shape : (size d s p : ℕ) (g : Geometry) (n : ℕ) → 0 < size % (p * (d + s)) → 0 < p * (d + s) → p * (d + s) ≤ 1114112 → HasNumbers d s p (size / (p * (d + s)) + 1) 1 g → n ≡ p * (d + s) - size % (p * (d + s)) → IsShapeIn size Cut d s p (Some (g, cut_by n))
cut_shape size d s p g n there some most is n_is =
    let few : size % (p * (d + s)) < p * (d + s) = mod_below size (p * (d + s)) some in
    let block = block_is g d s p is.data_bytes_is is.spare_bytes_is is.pages_is in
    let blocks : 0 < g.blocks = (let l = g.limits.block_count.least in omega arith) in
    let image : image_bytes g ≡ (g.blocks - 1) * (p * (d + s)) + p * (d + s) = last_block g.blocks g.pages (page_bytes g) blocks ∙ ap (λ k. (g.blocks - 1) * k + k) block in
    let count : g.blocks - 1 ≡ size / (p * (d + s)) = omega (arith, is.blocks_is) in
    let rest : (g.blocks - 1) * (p * (d + s)) + size % (p * (d + s)) ≡ size = ap (λ k. k * (p * (d + s)) + size % (p * (d + s))) count ∙ div-add-mod' size (p * (d + s)) in
    record {
      of_way = (n, omega (arith, n_is, few), omega (arith, n_is, there, few, most), refl);
      short = omega (arith, n_is, few, there, block);
      whole = omega (arith, image, n_is, rest, few);
      data_is = is.data_bytes_is;
      spare_is = is.spare_bytes_is;
      pages_is = is.pages_is;
      sector = is.sectors_is;
    }
