-- What is written and counted with one page more.
use Rattle.std.proofs.Common.{◌≡◌, ℕ, ◌+◌, ◌<◌, ◌≤◌, Bool, true, false, cond, All, List, [], ◌∷◌, ◌++◌, length, map, take, set, slice_get, Option, Some, None, IfSome, refl, sym, ap, ◌∙◌, subst, arith, length-append}
use Rattle.std.specs.Prelude.{option_map, nat_eq}
use Rattle.std.specs.List.{sum_by, cons_option}
use Rattle.std.proofs.lemmas.List.{take_more, take_more_set, map-append, length-take-le, length-set}
use Rattle.std.proofs.lemmas.List.Elements.{All-append, All-nil, All-cons}
use Rattle.std.proofs.lemmas.List.Sums.{sum_by-append}
use Rattle.std.proofs.lemmas.Option.{slice_get_within, get_or_from_slice_get}
use Rattle.page_layout.specs.declared.geometry.Geometry.{Geometry}
use Rattle.page_layout.specs.Geometry.{row_count, page_bytes}
use Rattle.page_layout.specs.Page.{Page, Image, page}
use Rattle.page_code.specs.Chip.{IsChipOf}
use Rattle.page_code.specs.Near.{HasChipSizes}
use Rattle.page_code.specs.Corrected.{turned_bits, lost_chunks}
use Rattle.lab_correct.specs.declared.correcting.Loss.{Loss}
use Rattle.lab_correct.specs.Correcting.{IsPieceMade, corrected_piece, touches, loss_at, losses_from, losses_with_row, ShowsCorrected, CorrectingStands}

-- ---- lists

-- the first pages of an image, and one more
pub one_more : (image : Image) (rows : ℕ) (r : Page) → slice_get image rows ≡ Some r → take (rows + 1) image ≡ take rows image ++ r ∷ []
one_more image rows r at = take_more image rows r (slice_get_within image rows r at) ∙ ap (λ x. take rows image ++ x ∷ []) (get_or_from_slice_get image rows r r at)

pub few_taken : (image : Image) (rows : ℕ) (r : Page) → slice_get image rows ≡ Some r → length (take rows image) ≡ rows
few_taken image rows r at = let within = slice_get_within image rows r at in length-take-le rows image (omega arith)

cons_append : (o : Option Loss) (xs ys : List Loss) → cons_option o (xs ++ ys) ≡ cons_option o xs ++ ys
cons_append None xs ys = refl
cons_append (Some x) xs ys = refl

cons_few : (o : Option Loss) → length (cons_option o []) ≤ 1
cons_few None = omega arith
cons_few (Some x) = omega arith

losses_more : (g : Geometry) (at rows : ℕ) (seen : Image) (r : Page) → at + length seen ≡ rows → losses_from g at (seen ++ r ∷ []) ≡ losses_with_row (losses_from g at seen) rows (lost_chunks g r)
losses_more g at rows [] r e = let same : at ≡ rows = omega arith in ap (λ k. cons_option (loss_at k (lost_chunks g r)) []) same
losses_more g at rows (x ∷ xs) r e =
    ap (λ z. cons_option (loss_at at (lost_chunks g x)) z) (losses_more g (at + 1) rows xs r (omega arith))
    ∙ cons_append (loss_at at (lost_chunks g x)) (losses_from g (at + 1) xs) (cons_option (loss_at rows (lost_chunks g r)) [])

sum_more : (f : Page → ℕ) (seen : Image) (r : Page) → sum_by f (seen ++ r ∷ []) ≡ sum_by f seen + f r
sum_more f seen r = omega (arith, sum_by-append f seen (r ∷ []))

-- ---- one page more

pieces_more : (g : Geometry) (rows all : ℕ) (seen : Image) (r : Page) (pieces : Option (List (List ℕ))) (scratch : List ℕ) → rows < all → IfSome pieces (λ ps. length ps ≡ all) → IfSome pieces (λ ps. take rows ps ≡ map (corrected_piece g) seen)
    → scratch ≡ corrected_piece g r → IfSome (option_map (λ ps. set ps rows scratch) pieces) (λ ps. take (rows + 1) ps ≡ map (corrected_piece g) (seen ++ r ∷ []))
pieces_more g rows all seen r None scratch l size h is = tt
pieces_more g rows all seen r (Some ps) scratch l size h is =
    take_more_set ps rows scratch (omega arith) ∙ (ap (λ z. z ++ scratch ∷ []) h ∙ (ap (λ b. map (corrected_piece g) seen ++ b ∷ []) is ∙ sym (map-append (corrected_piece g) seen (r ∷ []))))

-- what is counted of one page
pub record IsNoted (g : Geometry) (row : ℕ) (r : Page) (turned touched : ℕ) (losses : List Loss) (turned' touched' : ℕ) (losses' : List Loss) : Type 0 where
  pub turned_is : turned' ≡ turned + turned_bits g r
  pub touched_is : touched' ≡ touched + touches (turned_bits g r)
  pub losses_are : losses' ≡ losses_with_row losses row (lost_chunks g r)

pub shows_more : (g : Geometry) (rows all : ℕ) (seen : Image) (r : Page) (pieces : Option (List (List ℕ))) (scratch : List ℕ) (turned touched : ℕ) (losses : List Loss) (turned' touched' : ℕ) (losses' : List Loss)
    → rows < all → IfSome pieces (λ ps. length ps ≡ all) → length seen ≡ rows → scratch ≡ corrected_piece g r → IsNoted g rows r turned touched losses turned' touched' losses' → ShowsCorrected g rows seen pieces turned touched losses
    → ShowsCorrected g (rows + 1) (seen ++ r ∷ []) (option_map (λ ps. set ps rows scratch) pieces) turned' touched' losses'
shows_more g rows all seen r pieces scratch turned touched losses turned' touched' losses' l size count is counted h = record {
  pieces_are = pieces_more g rows all seen r pieces scratch l size h.pieces_are is;
  turned_is = counted.turned_is ∙ (ap (λ n. n + turned_bits g r) h.turned_is ∙ sym (sum_more (turned_bits g) seen r));
  touched_is = counted.touched_is ∙ (ap (λ n. n + touches (turned_bits g r)) h.touched_is ∙ sym (sum_more (λ p. touches (turned_bits g p)) seen r));
  losses_are = counted.losses_are ∙ (ap (λ xs. losses_with_row xs rows (lost_chunks g r)) h.losses_are ∙ sym (losses_more g 0 rows seen r (omega arith)));
}

-- the same of an image whose next page it is
pub shows_next : (g : Geometry) (rows all : ℕ) (image : Image) (r : Page) (pieces : Option (List (List ℕ))) (scratch : List ℕ) (turned touched : ℕ) (losses : List Loss) (turned' touched' : ℕ) (losses' : List Loss)
    → rows < all → IfSome pieces (λ ps. length ps ≡ all) → scratch ≡ corrected_piece g r → IsNoted g rows r turned touched losses turned' touched' losses' → ShowsCorrected g rows (take rows image) pieces turned touched losses → slice_get image rows ≡ Some r
    → ShowsCorrected g (rows + 1) (take (rows + 1) image) (option_map (λ ps. set ps rows scratch) pieces) turned' touched' losses'
shows_next g rows all image r pieces scratch turned touched losses turned' touched' losses' l size is counted h at =
    subst (λ (seen : Image). ShowsCorrected g (rows + 1) seen (option_map (λ ps. set ps rows scratch) pieces) turned' touched' losses') (sym (one_more image rows r at))
    (shows_more g rows all (take rows image) r pieces scratch turned touched losses turned' touched' losses' l size (few_taken image rows r at) is counted h)

touches_few : (n : ℕ) → touches n ≤ 1
touches_few n = by (nat_eq n 0)
  where
    by : (b : Bool) → cond b 0 1 ≤ 1
    by true = omega arith
    by false = omega arith

sized_set : (all row : ℕ) (scratch : List ℕ) (pieces : Option (List (List ℕ))) → IfSome pieces (λ ps. length ps ≡ all) → IfSome (option_map (λ ps. set ps row scratch) pieces) (λ ps. length ps ≡ all)
sized_set all row scratch None h = tt
sized_set all row scratch (Some ps) h = length-set ps row scratch ∙ h

one_all : (g : Geometry) (r : Page) → HasChipSizes g r → All (HasChipSizes g) (r ∷ [])
one_all g r h = All-cons (HasChipSizes g) r [] h (All-nil (HasChipSizes g))

pub stands_more : (g chip : Geometry) (rows : ℕ) (r : Page) (scratch scratch' : List ℕ) (turned touched : ℕ) (losses : List Loss) (turned' touched' : ℕ) (losses' : List Loss) (capacity capacity' : ℕ) (pieces : Option (List (List ℕ)))
    → rows < row_count chip → HasChipSizes g r → scratch' ≡ corrected_piece g r → length scratch' ≡ page_bytes g → turned_bits g r ≤ 32 → capacity' ≡ capacity → IsNoted g rows r turned touched losses turned' touched' losses'
    → CorrectingStands g chip rows scratch turned touched losses capacity pieces → CorrectingStands g chip (rows + 1) scratch' turned' touched' losses' capacity' (option_map (λ ps. set ps rows scratch') pieces)
stands_more g chip rows r scratch scratch' turned touched losses turned' touched' losses' capacity capacity' pieces l sizes is size few same counted h = record {
  of = h.of;
  scratch_size = size;
  few_turned = (let was = h.few_turned in let now = counted.turned_is in omega arith);
  few_touched = (let was = h.few_touched in let now = counted.touched_is in let one = touches_few (turned_bits g r) in omega arith);
  few_losses = (let was = h.few_losses in let now = ap length counted.losses_are in let one = cons_few (loss_at rows (lost_chunks g r)) in omega (arith, length-append losses (cons_option (loss_at rows (lost_chunks g r)) [])));
  room = (let room = h.room in omega arith);
  sized = sized_set (row_count chip) rows scratch' pieces h.sized;
  has = record {
    seen = h.has.seen ++ r ∷ [];
    count = (let count = h.has.count in omega (arith, length-append h.has.seen (r ∷ [])));
    sized = All-append (HasChipSizes g) h.has.seen (r ∷ []) h.has.sized (one_all g r sizes);
    shows = shows_more g rows (row_count chip) h.has.seen r pieces scratch' turned touched losses turned' touched' losses' l h.sized h.has.count is counted h.has.shows;
  };
}

-- ---- before the first page

none_pieces : (g : Geometry) (pieces : Option (List (List ℕ))) → IfSome pieces (λ ps. take 0 ps ≡ map (corrected_piece g) [])
none_pieces g None = tt
none_pieces g (Some ps) = refl

pub shows_none : (g : Geometry) (pieces : Option (List (List ℕ))) (losses : List Loss) → losses ≡ [] → ShowsCorrected g 0 [] pieces 0 0 losses
shows_none g pieces losses e = record { pieces_are = none_pieces g pieces; turned_is = refl; touched_is = refl; losses_are = e }

pub stands_none : (g chip : Geometry) (scratch : List ℕ) (losses : List Loss) (capacity : ℕ) (pieces : Option (List (List ℕ))) → IsChipOf g chip → length scratch ≡ page_bytes g → losses ≡ [] → row_count chip ≤ capacity
    → IfSome pieces (λ ps. length ps ≡ row_count chip) → CorrectingStands g chip 0 scratch 0 0 losses capacity pieces
stands_none g chip scratch losses capacity pieces of size none room sized = record {
  of = of;
  scratch_size = size;
  few_turned = omega arith;
  few_touched = omega arith;
  few_losses = (let e = ap length none in omega arith);
  room = room;
  sized = sized;
  has = record { seen = []; count = refl; sized = All-nil (HasChipSizes g); shows = shows_none g pieces losses none };
}

-- ---- as a taker has it

noted_as : (g : Geometry) (row : ℕ) (r : Page) (scratch : List ℕ) (here lost turned touched : ℕ) (losses : List Loss) (turned' touched' : ℕ) (losses' : List Loss) → IsPieceMade g r here lost scratch → turned' ≡ turned + here → touched' ≡ touched + touches here
    → losses' ≡ losses_with_row losses row lost → IsNoted g row r turned touched losses turned' touched' losses'
noted_as g row r scratch here lost turned touched losses turned' touched' losses' made e f h = record {
  turned_is = e ∙ ap (λ n. turned + n) made.turned_is;
  touched_is = f ∙ ap (λ n. touched + touches n) made.turned_is;
  losses_are = h ∙ ap (losses_with_row losses row) made.lost_is;
}

pub stands_put : (g g' chip : Geometry) (row : ℕ) (r : Page) (scratch scratch' bytes : List ℕ) (turned touched : ℕ) (losses : List Loss) (turned' touched' : ℕ) (losses' : List Loss) (capacity : ℕ) (capacity' here lost : ℕ) (pieces pieces' : Option (List (List ℕ)))
    → g' ≡ g → scratch' ≡ scratch → pieces' ≡ option_map (λ ps. set ps row bytes) pieces → bytes ≡ scratch' → row < row_count chip → here ≤ 32 → HasChipSizes g r → capacity' ≡ capacity → turned' ≡ turned + here → touched' ≡ touched + touches here
    → losses' ≡ losses_with_row losses row lost → IsPieceMade g r here lost scratch → CorrectingStands g chip row scratch turned touched losses capacity pieces → CorrectingStands g' chip (row + 1) scratch' turned' touched' losses' capacity' pieces'
stands_put g g' chip row r scratch scratch' bytes turned touched losses turned' touched' losses' capacity capacity' here lost pieces pieces' same kept put is l few sizes room e f h made stands =
    let counted = noted_as g row r scratch here lost turned touched losses turned' touched' losses' made e f h in
    let after = stands_more g chip row r scratch scratch turned touched losses turned' touched' losses' capacity capacity' pieces l sizes made.piece stands.scratch_size (let t = made.turned_is in omega arith) room counted stands in
    let file : pieces' ≡ option_map (λ ps. set ps row scratch) pieces = put ∙ ap (λ b. option_map (λ ps. set ps row b) pieces) (is ∙ kept) in
    subst (λ (k : Geometry). CorrectingStands k chip (row + 1) scratch' turned' touched' losses' capacity' pieces') (sym same)
    (subst (λ x. CorrectingStands g chip (row + 1) x turned' touched' losses' capacity' pieces') (sym kept) (subst (λ x. CorrectingStands g chip (row + 1) scratch turned' touched' losses' capacity' x) (sym file) after))

pub shows_put : (g g' chip : Geometry) (row : ℕ) (image : Image) (r : Page) (scratch scratch' bytes : List ℕ) (turned touched : ℕ) (losses : List Loss) (turned' touched' : ℕ) (losses' : List Loss) (here lost : ℕ) (pieces pieces' : Option (List (List ℕ)))
    → g' ≡ g → scratch' ≡ scratch → pieces' ≡ option_map (λ ps. set ps row bytes) pieces → bytes ≡ scratch' → row < row_count chip → IfSome pieces (λ ps. length ps ≡ row_count chip) → turned' ≡ turned + here → touched' ≡ touched + touches here
    → losses' ≡ losses_with_row losses row lost → IsPieceMade g r here lost scratch → ShowsCorrected g row (take row image) pieces turned touched losses → slice_get image row ≡ Some r → ShowsCorrected g' (row + 1) (take (row + 1) image) pieces' turned' touched' losses'
shows_put g g' chip row image r scratch scratch' bytes turned touched losses turned' touched' losses' here lost pieces pieces' same kept put is l size e f h made shown at =
    let counted = noted_as g row r scratch here lost turned touched losses turned' touched' losses' made e f h in
    let after = shows_next g row (row_count chip) image r pieces scratch turned touched losses turned' touched' losses' l size made.piece counted shown at in
    let file : pieces' ≡ option_map (λ ps. set ps row scratch) pieces = put ∙ ap (λ b. option_map (λ ps. set ps row b) pieces) (is ∙ kept) in
    subst (λ (k : Geometry). ShowsCorrected k (row + 1) (take (row + 1) image) pieces' turned' touched' losses') (sym same)
    (subst (λ x. ShowsCorrected g (row + 1) (take (row + 1) image) x turned' touched' losses') (sym file) after)

pub made_by : (g : Geometry) (body spare : List ℕ) (turned lost : ℕ) (scratch : List ℕ) → scratch ≡ corrected_piece g (page body spare) → turned ≡ turned_bits g (page body spare) → lost ≡ lost_chunks g (page body spare) → IsPieceMade g (page body spare) turned lost scratch
made_by g body spare turned lost scratch e f h = record { piece = e; turned_is = f; lost_is = h }

pub sizes_by : (g chip : Geometry) (body spare : List ℕ) → IsChipOf g chip → length body ≡ chip.data_bytes → length spare ≡ chip.spare_bytes → HasChipSizes g (page body spare)
sizes_by g chip body spare of e f = record { body_size = e ∙ of.data_is; spare_size = f ∙ of.spare_is }
