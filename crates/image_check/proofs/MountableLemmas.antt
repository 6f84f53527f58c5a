-- Which images have a certificate.
use Rattle.std.proofs.Common.{◌≡◌, ℕ, zero, suc, ◌+◌, ◌-◌, ◌^◌, ◌<◌, ◌≤◌, ◌↔◌, List, [], ◌∷◌, ◌++◌, length, length-append, map, Option, Some, None}
use Rattle.std.proofs.Common.{refl, ap, ◌∙◌, arith, slice_get, lit<}
use Rattle.std.specs.List.{range_with_len, AllByRecursion}
use Rattle.std.proofs.lemmas.Option.{slice_get-get_or}
use Rattle.std.proofs.lemmas.List.FromFn.{get_or-map-range_with_len, length-map-range_with_len}
use Rattle.page_layout.specs.declared.geometry.Geometry.{Geometry}
use Rattle.page_layout.specs.declared.record.Key.TheVariants.{Sector, Translation, Table}
use Rattle.page_layout.specs.declared.record.Key.{Key}
use Rattle.page_layout.specs.Geometry.{row_count, translation_pages, table_pages}
use Rattle.page_layout.specs.Page.{Image}
use Rattle.page_layout.specs.Newest.{newest}
use Rattle.page_layout.specs.Array.{marks}
use Rattle.page_layout.proofs.NewestLemmas.{newest-within}
use Rattle.page_layout.proofs.ArrayLemmas.{length-marks}
use Rattle.certificate.specs.declared.block_state.BlockState.{BlockState}
use Rattle.certificate.specs.Claim.{Claim, sizes_of}
use Rattle.certificate.specs.Spelling.{Fits, FitsBlock, IsRowOf}
use Rattle.image_check.specs.Blocks.{erase_count, block_state}
use Rattle.image_check.specs.Agrees.{Agrees, EachState}
use Rattle.image_check.specs.Mountable.{IsMountable, IsOrderly}
use Rattle.image_check.proofs.LiveMostLemmas.{live_most}
use Rattle.image_check.proofs.StateLemmas.{class_most, pointer_most}

pub orderly_of : (g : Geometry) (capacity : ℕ) (image : Image) → IsMountable g capacity image → IsOrderly g capacity image
orderly_of g capacity image m = record {
  numbers = m.agrees.numbers;
  sequences = m.agrees.sequences;
  tables = m.agrees.tables;
  last = record { below = λ row x e. let l = m.agrees.next.below row x e in let n = m.fits.next in omega arith };
  fresh = m.agrees.fresh;
}

-- ---- lists

-- item i of a list made by number
made_at : {X : Type 0} (f : ℕ → X) (n i : ℕ) → i < n → slice_get (map f (range_with_len 0 n)) i ≡ Some (f i)
made_at f n i l =
    let size = length-map-range_with_len f 0 n in
    slice_get-get_or (map f (range_with_len 0 n)) i (f i) (omega arith) ∙ ap Some (get_or-map-range_with_len f 0 n i i (f i) l (omega arith))

all_made : {X : Type 0} (P : X → Type 0) (f : ℕ → X) (a n : ℕ) → ((k : ℕ) → a ≤ k → k < a + n → P (f k)) → AllByRecursion P (map f (range_with_len a n))
all_made P f a zero h = tt
all_made P f a (suc n) h = (h a (omega arith) (omega arith), all_made P f (a + 1) n (λ k l m. h k (omega arith) (omega arith)))

all_joined : {X : Type 0} (P : X → Type 0) (xs ys : List X) → AllByRecursion P xs → AllByRecursion P ys → AllByRecursion P (xs ++ ys)
all_joined P [] ys h k = k
all_joined P (x ∷ xs) ys h k = (h.0, all_joined P xs ys h.1 k)

left_at : {X : Type 0} (xs ys : List X) (i : ℕ) (x : X) → slice_get xs i ≡ Some x → slice_get (xs ++ ys) i ≡ Some x
left_at [] ys i x e = absurd cc
left_at (y ∷ xs) ys zero x e = e
left_at (y ∷ xs) ys (suc i) x e = left_at xs ys i x e

right_at : {X : Type 0} (xs ys : List X) (i j : ℕ) → i ≡ length xs + j → slice_get (xs ++ ys) i ≡ slice_get ys j
right_at [] ys i j e = let same : i ≡ j = omega arith in ap (slice_get ys) same
right_at (x ∷ xs) ys zero j e = absurd (omega arith)
right_at (x ∷ xs) ys (suc i) j e = right_at xs ys i j (omega arith)

-- ---- the certificate

-- what there is to say of an image
abbrev claim_of : Geometry → ℕ → Image → Claim
claim_of g capacity image = record {
  sizes = sizes_of g;
  capacity = capacity;
  next = 2 ^ 64 - 1;
  blocks = map (block_state g image) (range_with_len 0 g.blocks);
  directory = map (λ t. newest (marks image) (Translation t)) (range_with_len 0 (translation_pages g)) ++ map (λ u. newest (marks image) (Table u)) (range_with_len 0 (table_pages g));
  sectors = map (λ n. newest (marks image) (Sector n)) (range_with_len 0 g.sectors);
}

each_made : (g : Geometry) (image : Image) (P : ℕ → BlockState → Type 0) → ((b : ℕ) → P b (block_state g image b)) → EachState g.blocks (map (block_state g image) (range_with_len 0 g.blocks)) P
each_made g image P h = record { state = λ b l. (block_state g image b, made_at (block_state g image) g.blocks b l, h b) }

same_fact : {P : Type 0} → P ↔ P
same_fact = (λ x. x, λ x. x)

agrees_of_orderly : (g : Geometry) (capacity : ℕ) (image : Image) → IsOrderly g capacity image → Agrees g capacity image (claim_of g capacity image)
agrees_of_orderly g capacity image o =
    let first = map (λ t. newest (marks image) (Translation t)) (range_with_len 0 (translation_pages g)) in
    let second = map (λ u. newest (marks image) (Table u)) (range_with_len 0 (table_pages g)) in
    let size : length first ≡ translation_pages g = length-map-range_with_len (λ t. newest (marks image) (Translation t)) 0 (translation_pages g) in
    record {
      asked = record { geometry = refl; capacity_same = refl };
      numbers = o.numbers;
      sequences = o.sequences;
      tables = o.tables;
      directory = record {
        translation = λ t l. left_at first second t (newest (marks image) (Translation t)) (made_at (λ k. newest (marks image) (Translation k)) (translation_pages g) t l);
        table = λ u l. right_at first second (translation_pages g + u) u (omega arith) ∙ made_at (λ k. newest (marks image) (Table k)) (table_pages g) u l;
      };
      sectors = record { newest_is = λ n l. made_at (λ k. newest (marks image) (Sector k)) g.sectors n l };
      bad_set = each_made g image _ (λ b. (same_fact, same_fact));
      states = each_made g image _ (λ b. (refl, refl));
      live = each_made g image _ (λ b. refl);
      wear = each_made g image _ (λ b. refl);
      next = o.last;
      fresh = o.fresh;
    }

wear_most : (g : Geometry) (image : Image) (b : ℕ) → erase_count g image b ≤ 16777215
unfolding erase_count
wear_most g image b = omega arith

row_fits : (g : Geometry) (image : Image) (key : Key) (o : Option ℕ) → length image ≡ row_count g → newest (marks image) key ≡ o → IsRowOf (row_count g) o
row_fits g image key None whole e = tt
row_fits g image key (Some row) whole e = let l = newest-within (marks image) key row e in let size = length-marks image in omega arith

fits_of_orderly : (g : Geometry) (capacity : ℕ) (image : Image) → length image ≡ row_count g → 1 ≤ capacity → capacity ≤ 65536 → IsOrderly g capacity image → Fits (claim_of g capacity image)
fits_of_orderly g capacity image whole least most o =
    let pages = g.limits.page_count.most in
    let first = map (λ t. newest (marks image) (Translation t)) (range_with_len 0 (translation_pages g)) in
    let second = map (λ u. newest (marks image) (Table u)) (range_with_len 0 (table_pages g)) in
    let n1 : length (map (λ t. newest (marks image) (Translation t)) (range_with_len 0 (translation_pages g))) ≡ translation_pages g = length-map-range_with_len (λ t. newest (marks image) (Translation t)) 0 (translation_pages g) in
    let n2 : length (map (λ u. newest (marks image) (Table u)) (range_with_len 0 (table_pages g))) ≡ table_pages g = length-map-range_with_len (λ u. newest (marks image) (Table u)) 0 (table_pages g) in
    record {
      limits = g.limits;
      capacity_least = least;
      capacity_most = most;
      next = lit< tt;
      blocks = all_made FitsBlock (block_state g image) 0 g.blocks (λ b low high. record {
        class = class_most g image b;
        pointer = let few = pointer_most g image b in omega arith;
        live = let few = live_most g (marks image) b o.numbers in omega arith;
        wear = let few = wear_most g image b in omega arith;
      });
      directory = all_joined (IsRowOf (row_count g)) first second
          (all_made (IsRowOf (row_count g)) (λ t. newest (marks image) (Translation t)) 0 (translation_pages g) (λ k low high. row_fits g image (Translation k) (newest (marks image) (Translation k)) whole refl))
          (all_made (IsRowOf (row_count g)) (λ u. newest (marks image) (Table u)) 0 (table_pages g) (λ k low high. row_fits g image (Table k) (newest (marks image) (Table k)) whole refl));
      sectors = all_made (IsRowOf (row_count g)) (λ n. newest (marks image) (Sector n)) 0 g.sectors (λ k low high. row_fits g image (Sector k) (newest (marks image) (Sector k)) whole refl);
      blocks_length = length-map-range_with_len (block_state g image) 0 g.blocks;
      directory_length = length-append first second ∙ omega arith;
      sectors_length = length-map-range_with_len (λ n. newest (marks image) (Sector n)) 0 g.sectors;
    }

pub mountable : (g : Geometry) (capacity : ℕ) (image : Image) → length image ≡ row_count g → 1 ≤ capacity → capacity ≤ 65536 → IsMountable g capacity image ↔ IsOrderly g capacity image
mountable g capacity image whole least most = (
  orderly_of g capacity image,
  λ o. record { certificate = claim_of g capacity image; agrees = agrees_of_orderly g capacity image o; fits = fits_of_orderly g capacity image whole least most o },
)
