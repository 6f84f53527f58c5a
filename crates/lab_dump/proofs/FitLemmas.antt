-- Geometries are added to those that fit.
use Rattle.std.proofs.Common.{◌≡◌, ℕ, zero, suc, ◌+◌, ◌-◌, ◌<◌, ◌≤◌, List, [], ◌∷◌, ◌++◌, length, length-append, append-nil, take, get_or, refl, sym, ap, ◌∙◌, subst, arith, Bool, true, false, All}
use Rattle.std.specs.Prelude.{nat_lt, ◌&&◌, if◌then◌else◌}
use Rattle.std.specs.List.{flat_map, range_with_len}
use Rattle.std.proofs.lemmas.List.{flat_map_more, take_more}
use Rattle.std.specs.Prelude.{IsPermutation}
use Rattle.std.proofs.lemmas.List.Elements.{All-push, All-nil}
use Rattle.std.proofs.lemmas.List.Sorted.{length_permutation}
use Rattle.page_layout.specs.declared.geometry.Geometry.{Geometry}
use Rattle.page_layout.specs.Limits.{IsSectorCount}
use Rattle.lab_dump.specs.declared.fit.Fit.{Fit}
use Rattle.lab_dump.specs.declared.sample.Sample.{Sample}
use Rattle.lab_dump.specs.declared.told.PagesTold.{PagesTold}
use Rattle.page_layout.specs.Geometry.{row_count}
use Rattle.lab_dump.specs.Sample.{sample_of}
use Rattle.lab_dump.specs.Told.{pages_told_of}
use Rattle.lab_dump.specs.Shape.{page_counts, rows_in_size, has_shape}
use Rattle.lab_dump.specs.Fits.{fit_of, sectors_from, shape_fits, area_fits, IsPossible, AddsFits}
use Rattle.lab_dump.proofs.SampleLemmas.{range_last}

-- ---- possible geometries

pub within : (told : ℕ) → IsSectorCount (sectors_from told)
within told = record { least = omega arith; most = omega arith }

pub possible_fit : (g : Geometry) (sample : Sample) (told : PagesTold) (f : Fit) → f ≡ fit_of g.data_bytes g.spare_bytes g.pages g.blocks sample told → 0 < sample.sound → sample.sound + sample.unsound ≤ sample.looked → IsPossible f
possible_fit g sample told f e some looked = subst IsPossible (sym e) (record {
  limits = record {
    data_size = g.limits.data_size;
    spare_size = g.limits.spare_size;
    page_count = g.limits.page_count;
    block_count = g.limits.block_count;
    sector_count = within told.sectors;
  };
  some_sound = some;
  looked = looked;
})

-- ---- what is added

pub adds_one : (old new : List Fit) (f : Fit) → new ≡ old ++ f ∷ [] → IsPossible f → AddsFits 1 old new
adds_one old new f e possible = subst (AddsFits 1 old) (sym e) (record {
  few = omega (arith, length-append old (f ∷ []));
  possible = λ all. All-push IsPossible old f all possible;
})

pub adds_none : (most : ℕ) (old : List Fit) → AddsFits most old old
adds_none most old = record { few = omega arith; possible = λ all. all }

pub adds_then : (m n most : ℕ) (a b c : List Fit) → AddsFits m a b → AddsFits n b c → m + n ≤ most → AddsFits most a c
adds_then m n most a b c first second l = record {
  few = (let x = first.few in let y = second.few in omega arith);
  possible = λ all. second.possible (first.possible all);
}

-- ---- one piece more

pub more_at : {X : Type 0} (f : ℕ → List X) (bs : List X) (xs : List ℕ) (i d x : ℕ) (mid new : List X) → i < length xs → x ≡ get_or xs i d → mid ≡ bs ++ flat_map f (take i xs) → new ≡ mid ++ f x
    → new ≡ bs ++ flat_map f (take (i + 1) xs)
more_at f bs xs i d x mid new l is old e =
    e ∙ (ap (λ k. k ++ f x) old ∙ (flat_map_more f bs (take i xs) x ∙ (ap (λ k. bs ++ flat_map f (take i xs ++ k ∷ [])) is ∙ ap (λ k. bs ++ flat_map f k) (sym (take_more xs i d l)))))

pub more_from : {X : Type 0} (f : ℕ → List X) (bs : List X) (a n : ℕ) (mid new : List X) → a ≤ n → mid ≡ bs ++ flat_map f (range_with_len a (n - a)) → new ≡ mid ++ f n → new ≡ bs ++ flat_map f (range_with_len a (n + 1 - a))
more_from f bs a n mid new l old e =
    let next : n + 1 - a ≡ suc (n - a) = omega arith in
    e ∙ (ap (λ k. k ++ f n) old ∙ (flat_map_more f bs (range_with_len a (n - a)) n ∙ (ap (λ k. bs ++ flat_map f k) (sym (range_last a (n - a) n (omega arith))) ∙ ap (λ k. bs ++ flat_map f (range_with_len a k)) (sym next))))

-- ---- those of such areas

positive : (n : ℕ) → ¬ (n ≡ 0) → nat_lt 0 n ≡ true
positive zero h = absurd (h refl)
positive (suc n) h = grind arith

pub area_when : (all : List ℕ) (d s : ℕ) (shaped sounds : Bool) → has_shape (length all) d s ≡ shaped → nat_lt 0 (sample_of d s (rows_in_size (length all) d s) all).sound ≡ sounds
    → area_fits all d s ≡ (if shaped && sounds then flat_map (shape_fits (length all) d s (sample_of d s (rows_in_size (length all) d s) all) (pages_told_of d s (rows_in_size (length all) d s) all)) page_counts else [])
unfolding area_fits
area_when all d s shaped sounds a b =
    let fits : List Fit = flat_map (shape_fits (length all) d s (sample_of d s (rows_in_size (length all) d s) all) (pages_told_of d s (rows_in_size (length all) d s) all)) page_counts in
    ap (λ x. if x && nat_lt 0 (sample_of d s (rows_in_size (length all) d s) all).sound then fits else []) a ∙ ap (λ x. if shaped && x then fits else []) b

no_right : (a : Bool) → (a && false) ≡ false
no_right true = refl
no_right false = refl

nothing_more : (items rest : List Fit) → rest ≡ [] → items ≡ items ++ rest
nothing_more items rest e = sym (append-nil items) ∙ ap (λ l. items ++ l) (sym e)

pub area_none : (size d s : ℕ) (all : List ℕ) (items : List Fit) → size ≡ length all → has_shape size d s ≡ false → items ≡ items ++ area_fits all d s
area_none size d s all items size_is none =
    nothing_more items (area_fits all d s) (area_when all d s false _ (ap (λ n. has_shape n d s) (sym size_is) ∙ none) refl)

-- the areas and the rows are those of a geometry
pub record IsAsOf (g : Geometry) (size d s : ℕ) : Type 0 where
  pub data_is : g.data_bytes ≡ d
  pub spare_is : g.spare_bytes ≡ s
  pub rows_is : row_count g ≡ rows_in_size size d s

sample_here : (g : Geometry) (size d s : ℕ) (all : List ℕ) (x : Sample) → IsAsOf g size d s → size ≡ length all → x ≡ sample_of g.data_bytes g.spare_bytes (row_count g) all → x ≡ sample_of d s (rows_in_size (length all) d s) all
sample_here g size d s all x like size_is e =
    e ∙ (ap (λ k. sample_of k g.spare_bytes (row_count g) all) like.data_is ∙ (ap (λ k. sample_of d k (row_count g) all) like.spare_is ∙ ap (λ k. sample_of d s k all) (like.rows_is ∙ ap (λ n. rows_in_size n d s) size_is)))

told_here : (g : Geometry) (size d s : ℕ) (all : List ℕ) (x : PagesTold) → IsAsOf g size d s → size ≡ length all → x ≡ pages_told_of g.data_bytes g.spare_bytes (row_count g) all → x ≡ pages_told_of d s (rows_in_size (length all) d s) all
told_here g size d s all x like size_is e =
    e ∙ (ap (λ k. pages_told_of k g.spare_bytes (row_count g) all) like.data_is ∙ (ap (λ k. pages_told_of d k (row_count g) all) like.spare_is ∙ ap (λ k. pages_told_of d s k all) (like.rows_is ∙ ap (λ n. rows_in_size n d s) size_is)))

pub area_unsound : (g : Geometry) (size d s : ℕ) (all : List ℕ) (sample : Sample) (items : List Fit) → IsAsOf g size d s → size ≡ length all → has_shape size d s ≡ true
    → sample ≡ sample_of g.data_bytes g.spare_bytes (row_count g) all → sample.sound ≡ 0 → items ≡ items ++ area_fits all d s
area_unsound g size d s all sample items like size_is shaped is none =
    let here = sample_here g size d s all sample like size_is is in
    nothing_more items (area_fits all d s) (area_when all d s true false (ap (λ n. has_shape n d s) (sym size_is) ∙ shaped) (ap (nat_lt 0) (ap (λ x. x.sound) (sym here) ∙ none)))

pub area_is : (g : Geometry) (size d s : ℕ) (all : List ℕ) (sample : Sample) (told : PagesTold) (items new : List Fit) → IsAsOf g size d s → size ≡ length all → has_shape size d s ≡ true
    → sample ≡ sample_of g.data_bytes g.spare_bytes (row_count g) all → told ≡ pages_told_of g.data_bytes g.spare_bytes (row_count g) all → ¬ (sample.sound ≡ 0)
    → new ≡ items ++ flat_map (shape_fits size d s sample told) page_counts → new ≡ items ++ area_fits all d s
area_is g size d s all sample told items new like size_is shaped is told_is some e =
    let here = sample_here g size d s all sample like size_is is in
    let there = told_here g size d s all told like size_is told_is in
    let fits = area_when all d s true true (ap (λ n. has_shape n d s) (sym size_is) ∙ shaped) (positive _ (λ z. some (ap (λ x. x.sound) here ∙ z))) in
    e ∙ ap (λ l. items ++ l) (ap (λ n. flat_map (shape_fits n d s sample told) page_counts) size_is
    ∙ (ap (λ x. flat_map (shape_fits (length all) d s x told) page_counts) here
    ∙ (ap (λ x. flat_map (shape_fits (length all) d s (sample_of d s (rows_in_size (length all) d s) all) x) page_counts) there ∙ sym fits)))

pub possible_none : (items : List Fit) → items ≡ [] → All IsPossible items
possible_none items e = subst (All IsPossible) (sym e) (All-nil IsPossible)

pub few_found : (old new sorted : List Fit) → old ≡ [] → AddsFits 11025 old new → IsPermutation new sorted → length sorted ≤ 11025
few_found old new sorted none added moved = (let few = added.few in omega (arith, few, ap (λ (xs : List Fit). length xs) none, length_permutation new sorted moved))

-- as many places as the steps that are left may need
pub places_left : (old new : List Fit) (done all step capacity kept : ℕ) → AddsFits done old new → done + step ≤ all → length old + all ≤ capacity → kept ≡ capacity → length new + step ≤ kept
places_left old new done all step capacity kept added l room same = (let few = added.few in omega arith)
