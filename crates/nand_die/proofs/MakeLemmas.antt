-- What a die is made of.
use Rattle.std.proofs.Common.{◌≡◌, ◌≢◌, ◌⊎◌, inl, inr, ℕ, zero, suc, ◌+◌, ◌*◌, ◌<◌, ◌≤◌, ◌==◌, Bool, true, false, ◌||◌, List, [], ◌∷◌, ◌++◌, take}
use Rattle.std.proofs.Common.{drop, length, map, replicate, refl, sym, ◌∙◌, ap, subst, arith, get_or, if◌then◌else◌, Some}
use Rattle.std.specs.Prelude.{slice_set, slice_get, Contains}
use Rattle.std.specs.List.{range_with_len, list_any}
use Rattle.std.proofs.Math.Nat.{mul-le-mul_right}
use Rattle.std.proofs.lemmas.Bool.{cases_lt, cases_eq, both_ways, eq-eqb, ne_eqb}
use Rattle.std.proofs.lemmas.Option.{slice_get-get_or, slice_get_within, same_Some}
use Rattle.std.proofs.lemmas.List.{get_or-set_same, get_or-set_other, length-set, set-set, map-append, take-set-le, drop-set-add, ext_get_or}
use Rattle.std.proofs.lemmas.List.{take_more, take_more_set}
use Rattle.std.proofs.lemmas.List.Folds.{list_any-append}
use Rattle.std.proofs.lemmas.List.FromFn.{length-map-range_with_len, get_or-map-range_with_len, map-range_with_len_more}
use Rattle.page_layout.specs.declared.geometry.Geometry.{Geometry}
use Rattle.page_layout.specs.Geometry.{row_count, page_bytes}
use Rattle.page_layout.specs.Page.{Page, page}
use Rattle.page_layout.specs.Raw.{raw_image}
use Rattle.page_layout.specs.Change.{erased_page}
use Rattle.page_layout.specs.Flash.{NextState, no_page, no_next_page}
use Rattle.onfi_cycles.specs.Cycles.{page_of}
use Rattle.nand_die.specs.declared.fault.Mark.{Mark}
use Rattle.nand_die.specs.declared.change.NextPage.{NextPage}
use Rattle.nand_die.specs.NextPages.{next_page_of}
use Rattle.nand_die.specs.Made.{IsMisnamed, AreNames, IsFirstMisnamed, is_named, first_next_page, first_next_pages, barred_next_page, with_barred, all_barred, marked_row, with_mark}
use Rattle.nand_die.specs.Made.{IsRefusedName, NamedAll, NamedUpTo, new_page, new_image}
use Rattle.nand_die.proofs.PagesLemmas.{page_written, page_read, part_length, blank_image}

-- ---- lists made from a function of their places

pub map_const : {X : Type 0} → (x : X) (a n : ℕ) → map (λ (k : ℕ). x) (range_with_len a n) ≡ replicate n x
map_const x a zero = refl
map_const x a (suc n) = ap (λ xs. x ∷ xs) (map_const x (a + 1) n)

-- one place is changed
set_made : {X : Type 0} → (f h : ℕ → X) (n i : ℕ) (v : X) → i < n → h i ≡ v → ((k : ℕ) → k ≢ i → h k ≡ f k)
    → slice_set (map f (range_with_len 0 n)) i v ≡ map h (range_with_len 0 n)
set_made f h n i v lt here others =
    let xs = map f (range_with_len 0 n) in
    let ys = map h (range_with_len 0 n) in
    let lx : length xs ≡ n = length-map-range_with_len f 0 n in
    ext_get_or v (slice_set xs i v) ys (length-set xs i v ∙ (lx ∙ sym (length-map-range_with_len h 0 n)))
    (λ k within. let kn : k < n = omega (arith, within, length-set xs i v, lx) in
    elim (cases_eq k i) [
      | inl e ↦ ap (λ j. get_or (slice_set xs i v) j v) e ∙ (get_or-set_same xs i v v (omega (arith, lt, lx)) ∙ (sym here ∙ (ap h (sym e) ∙ sym (get_or-map-range_with_len h 0 n k k v kn (omega arith)))))
      | inr ne ↦ get_or-set_other xs i k v v ne ∙ (get_or-map-range_with_len f 0 n k k v kn (omega arith) ∙ (sym (others k ne) ∙ sym (get_or-map-range_with_len h 0 n k k v kn (omega arith))))
    ])

-- ---- pages with marks

page_marked : (g : Geometry) (xs : List ℕ) (d : ℕ) → d ≡ g.data_bytes → page_of g (slice_set xs d 0) ≡ with_mark (page_of g xs)
page_marked g xs d e =
    ap (λ k. page_of g (slice_set xs k 0)) e
    ∙ (ap (λ b. page b (drop g.data_bytes (slice_set xs g.data_bytes 0))) (take-set-le g.data_bytes xs g.data_bytes 0 (omega arith))
    ∙ ap (page (take g.data_bytes xs)) (ap (λ k. drop g.data_bytes (slice_set xs k 0)) (omega arith) ∙ drop-set-add g.data_bytes xs 0 0))

row_ends : (row rows size n : ℕ) → row < rows → n ≡ rows * size → row * size + size ≤ n
row_ends row rows size n lt e = let h : suc row * size ≤ rows * size = mul-le-mul_right size lt in omega (arith, h, e)

pub mark_written : (g : Geometry) (row a k d : ℕ) (xs : List ℕ) → row < row_count g → a ≡ row * page_bytes g → k ≡ page_bytes g → d ≡ g.data_bytes → length xs ≡ row_count g * page_bytes g
    → raw_image g (take a xs ++ (slice_set (take k (drop a xs)) d 0 ++ drop k (drop a xs))) ≡ slice_set (raw_image g xs) row (with_mark (get_or (raw_image g xs) row no_page))
mark_written g row a k d xs lt at is_k is_d lx =
    let u : List ℕ = take k (drop a xs) in
    let ends : a + k ≤ length xs = omega (arith, at, is_k, row_ends row (row_count g) (page_bytes g) (length xs) lt lx) in
    let long : length (slice_set u d 0) ≡ page_bytes g = length-set u d 0 ∙ (part_length a k xs ends ∙ is_k) in
    let there : page_of g u ≡ get_or (raw_image g xs) row no_page = ap (λ n. page_of g (take n (drop a xs))) is_k ∙ sym (page_read g row a xs lt at) in
    page_written g row a k xs (slice_set u d 0) (slice_set u d 0) lt at is_k refl lx long
    ∙ ap (slice_set (raw_image g xs) row) (page_marked g u d is_d ∙ ap with_mark there)

-- an array of bytes FFh is a new image without marks
pub blank_new : (g : Geometry) (n : ℕ) → n ≡ row_count g * page_bytes g → raw_image g (replicate n 255) ≡ new_image g []
blank_new g n e = blank_image g n e ∙ sym (map_const (erased_page g) 0 (row_count g))

if_or : (a : Bool) (x y : Page) → (if a || true then x else y) ≡ x
if_or true x y = refl
if_or false x y = refl

twice_marked : (g : Geometry) (b : Bool) → with_mark (if b then with_mark (erased_page g) else erased_page g) ≡ with_mark (erased_page g)
twice_marked g false = refl
twice_marked g true = ap (page (replicate g.data_bytes 255)) (set-set (replicate g.spare_bytes 255) 0 0 0)

or_false : (a b : Bool) → b ≡ false → (a || b) ≡ a
or_false true b e = refl
or_false false b e = e

-- one more page is marked
pub image_more : (g : Geometry) (marks : List Mark) (m : Mark) (row : ℕ) → row ≡ marked_row g m → row < row_count g
    → slice_set (new_image g marks) row (with_mark (get_or (new_image g marks) row no_page)) ≡ new_image g (marks ++ m ∷ [])
image_more g marks m row at lt =
    let f : ℕ → Page = new_page g marks in
    let h : ℕ → Page = new_page g (marks ++ m ∷ []) in
    let test : (k : ℕ) → list_any (λ x. marked_row g x == k) (marks ++ m ∷ []) ≡ (list_any (λ x. marked_row g x == k) marks || ((marked_row g m == k) || false))
    = λ k. list_any-append (λ x. marked_row g x == k) marks (m ∷ []) in
    let there : get_or (new_image g marks) row no_page ≡ f row = get_or-map-range_with_len f 0 (row_count g) row row no_page lt (omega arith) in
    let here : h row ≡ with_mark (get_or (new_image g marks) row no_page)
    = ap (λ b. if b then with_mark (erased_page g) else erased_page g) (test row ∙ ap (λ b. list_any (λ x. marked_row g x == row) marks || (b || false)) (eq-eqb (marked_row g m) row (sym at)))
    ∙ (if_or (list_any (λ x. marked_row g x == row) marks) (with_mark (erased_page g)) (erased_page g)
    ∙ (sym (twice_marked g (list_any (λ x. marked_row g x == row) marks)) ∙ ap with_mark (sym there))) in
    set_made f h (row_count g) row (with_mark (get_or (new_image g marks) row no_page)) lt here
    (λ k ne. ap (λ b. if b then with_mark (erased_page g) else erased_page g)
    (test k ∙ or_false (list_any (λ x. marked_row g x == k) marks) ((marked_row g m == k) || false) (ap (λ b. b || false) (ne_eqb (marked_row g m) k (λ e. ne (sym e ∙ sym at))))))

-- ---- next pages

pub new_turns_so : (g : Geometry) (next_pages : List NextPage) (n : ℕ) (t : NextPage) → next_pages ≡ replicate n t → next_page_of t ≡ first_next_page 0 false → n ≡ g.blocks → map next_page_of next_pages ≡ first_next_pages g (λ block. 0) []
new_turns_so g next_pages n t is next_page e = ap (map next_page_of) is ∙ (all n ∙ (ap (replicate n) next_page ∙ (ap (λ k. replicate k (first_next_page 0 false)) e ∙ sym (map_const (first_next_page 0 false) 0 g.blocks))))
  where
    all : (k : ℕ) → map next_page_of (replicate k t) ≡ replicate k (next_page_of t)
    all zero = refl
    all (suc k) = ap (λ ts. next_page_of t ∷ ts) (all k)

-- one more next page was found
pub found_more : (f : ℕ → NextState) (next_pages : List NextPage) (k : ℕ) (t : NextPage) → k < length next_pages → next_page_of t ≡ f k → map next_page_of (take k next_pages) ≡ map f (range_with_len 0 k)
    → map next_page_of (take (k + 1) (slice_set next_pages k t)) ≡ map f (range_with_len 0 (k + 1))
found_more f next_pages k t lt is before =
    ap (map next_page_of) (take_more_set next_pages k t lt) ∙ (map-append next_page_of (take k next_pages) (t ∷ []) ∙ (ap (λ ts. ts ++ next_page_of t ∷ []) before
    ∙ (ap (λ u. map f (range_with_len 0 k) ++ u ∷ []) is ∙ sym (map-range_with_len_more f 0 k k (omega arith)))))

named_here : (a b : Bool) → b ≡ true → (a || (b || false)) ≡ true
named_here true b e = refl
named_here false b e = ap (λ x. x || false) e

-- one more block is bad
pub turns_more : (g : Geometry) (next : ℕ → ℕ) (names : List ℕ) (block : ℕ) → block < g.blocks
    → slice_set (first_next_pages g next names) block (barred_next_page (get_or (first_next_pages g next names) block no_next_page)) ≡ first_next_pages g next (names ++ block ∷ [])
turns_more g next names block lt =
    let f : ℕ → NextState = λ k. first_next_page (next k) (is_named names k) in
    let h : ℕ → NextState = λ k. first_next_page (next k) (is_named (names ++ block ∷ []) k) in
    let test : (k : ℕ) → is_named (names ++ block ∷ []) k ≡ (is_named names k || ((block == k) || false)) = λ k. list_any-append (λ n. n == k) names (block ∷ []) in
    let there : get_or (first_next_pages g next names) block no_next_page ≡ f block = get_or-map-range_with_len f 0 g.blocks block block no_next_page lt (omega arith) in
    let here : h block ≡ barred_next_page (get_or (first_next_pages g next names) block no_next_page)
    = ap (first_next_page (next block)) (test block ∙ named_here (is_named names block) (block == block) (eq-eqb block block refl)) ∙ ap barred_next_page (sym there) in
    set_made f h g.blocks block (barred_next_page (get_or (first_next_pages g next names) block no_next_page)) lt here
    (λ k ne. ap (first_next_page (next k)) (test k ∙ or_false (is_named names k) ((block == k) || false) (ap (λ b. b || false) (ne_eqb block k (λ e. ne (sym e))))))

-- ---- names

pub contains_named : (names : List ℕ) (block : ℕ) → is_named names block ≡ true → Contains names block
contains_named [] block e = absurd (both_ways false refl e)
contains_named (n ∷ names) block e = elim (cases_eq n block) [
  | inl same ↦ (0, omega arith, same)
  | inr other ↦
      let later : Contains names block = contains_named names block (rest (n == block) (is_named names block) e (ne_eqb n block other)) in
      (suc later.0, omega (arith, later.1), later.2)
]
  where
    rest : (a b : Bool) → (a || b) ≡ true → a ≡ false → b ≡ true
    rest false b h f = h
    rest true b h f = absurd (both_ways true f refl)

pub named_contains : (names : List ℕ) (block : ℕ) → Contains names block → is_named names block ≡ true
named_contains names block c = at names c.0 c.1 c.2
  where
    or_right : (a b : Bool) → b ≡ true → (a || b) ≡ true
    or_right true b e = refl
    or_right false b e = e

    at : (ns : List ℕ) (k : ℕ) → k < length ns → get_or ns k block ≡ block → is_named ns block ≡ true
    at [] k lt e = absurd (omega arith)
    at (n ∷ ns) zero lt e = ap (λ b. b || is_named ns block) (eq-eqb n block e)
    at (n ∷ ns) (suc k) lt e = or_right (n == block) (is_named ns block) (at ns k (omega arith) e)

-- the first k names were taken: none of them is misnamed, and these are the next pages
pub record Named (g : Geometry) (next : ℕ → ℕ) (names : List ℕ) (k : ℕ) (next_pages : List NextState) : Type 0 where
  pub turns_so : next_pages ≡ first_next_pages g next (take k names)
  pub right : (at other : ℕ) → at < k → ¬ IsMisnamed g names at other

pub named_none : (g : Geometry) (next : ℕ → ℕ) (names : List ℕ) (next_pages : List NextState) → next_pages ≡ first_next_pages g next [] → Named g next names 0 next_pages
named_none g next names next_pages e = record { turns_so = e; right = λ at other lt. absurd (omega (arith, lt)) }

barred_is : (g : Geometry) (next : ℕ → ℕ) (names : List ℕ) (block : ℕ) → block < g.blocks → (get_or (first_next_pages g next names) block no_next_page).barred ≡ is_named names block
barred_is g next names block lt = ap (λ (t : NextState). t.barred) (get_or-map-range_with_len (λ k. first_next_page (next k) (is_named names k)) 0 g.blocks block block no_next_page lt (omega arith))

pub named_more : (g : Geometry) (next : ℕ → ℕ) (names : List ℕ) (k block n : ℕ) (old new : List NextState) → Named g next names k old → k < length names → block ≡ get_or names k block → n ≡ g.blocks
    → block < n → (get_or old block no_next_page).barred ≡ false → new ≡ slice_set old block (barred_next_page (get_or old block no_next_page)) → Named g next names (k + 1) new
named_more g next names k block n old new before lt is e within free so =
    let here : block < g.blocks = omega (arith, e, within) in
    let unnamed : is_named (take k names) block ≡ false = sym (barred_is g next (take k names) block here) ∙ (ap (λ ts. (get_or ts block no_next_page).barred) (sym before.turns_so) ∙ free) in
    let more : take (k + 1) names ≡ take k names ++ block ∷ [] = take_more names k block lt ∙ ap (λ b. take k names ++ b ∷ []) (sym is) in
    record {
      turns_so = so ∙ (ap (λ ts. slice_set ts block (barred_next_page (get_or ts block no_next_page))) before.turns_so ∙ (turns_more g next (take k names) block here ∙ ap (first_next_pages g next) (sym more)));
      right = λ at other within_k bad. elim (cases_lt at k) [
        | inl earlier ↦ before.right at other earlier bad
        | inr now ↦
            let at_k : at ≡ k = omega (arith, within_k, now) in
            let same : block ≡ other = is ∙ same_Some (get_or names k block) other (sym (slice_get-get_or names k block lt) ∙ (ap (slice_get names) (sym at_k) ∙ bad.here)) in
            elim bad.wrong [
              | inl past ↦ absurd (omega (arith, past, same, here))
              | inr twice ↦ both_ways (is_named (take k names) block) unnamed
                  (named_contains (take k names) block (subst (λ j. Contains (take j names) block) at_k (subst (Contains (take at names)) (sym same) twice)))
            ]
      ];
    }

-- all of them
pub named_all : (g : Geometry) (next : ℕ → ℕ) (names : List ℕ) (k : ℕ) (next_pages : List NextState) → Named g next names k next_pages → length names ≤ k → AreNames g names
named_all g next names k next_pages named le at other bad = named.right at other (omega (arith, le, slice_get_within names at other bad.here)) bad

-- the next one is misnamed
pub named_stop : (g : Geometry) (next : ℕ → ℕ) (names : List ℕ) (k block n : ℕ) (next_pages : List NextState) → Named g next names k next_pages → k < length names → block ≡ get_or names k block → n ≡ g.blocks
    → (n ≤ block) ⊎ ((get_or next_pages block no_next_page).barred ≡ true) → IsFirstMisnamed g names block
named_stop g next names k block n next_pages named lt is e why = record {
  at = k;
  misnamed = record {
    here = slice_get-get_or names k block lt ∙ ap Some (sym is);
    wrong = elim (cases_lt block g.blocks) [
      | inl within ↦ elim why [
        | inl past ↦ absurd (omega (arith, past, e, within))
        | inr barred ↦ inr (contains_named (take k names) block (sym (barred_is g next (take k names) block within) ∙ (ap (λ ts. (get_or ts block no_next_page).barred) (sym named.turns_so) ∙ barred)))
      ]
      | inr past ↦ inl past
    ];
  };
  first = λ before other lt_k bad. named.right before other lt_k bad;
}

-- ---- names, of any next pages

barred_more : (ts : List NextState) (names : List ℕ) (block : ℕ) → all_barred ts (names ++ block ∷ []) ≡ with_barred (all_barred ts names) block
barred_more ts [] block = refl
barred_more ts (name ∷ names) block = barred_more (with_barred ts name) names block

-- the first k names were taken: none of them is refused, and these are the next pages
pub record Barred (old : List NextState) (names : List ℕ) (k : ℕ) (new : List NextState) : Type 0 where
  pub left : new ≡ all_barred old (take k names)
  pub right : (at other : ℕ) → at < k → ¬ IsRefusedName old names at other

pub barred_none : (old : List NextState) (names : List ℕ) → Barred old names 0 old
barred_none old names = record { left = refl; right = λ at other lt. absurd (omega (arith, lt)) }

pub barred_then : (old : List NextState) (names : List ℕ) (k block n : ℕ) (now new : List NextState) → Barred old names k now → k < length names → block ≡ get_or names k block → n ≡ length old
    → block < n → (get_or now block no_next_page).barred ≡ false → new ≡ with_barred now block → Barred old names (k + 1) new
barred_then old names k block n now new before lt is long within free so =
    let more : take (k + 1) names ≡ take k names ++ block ∷ [] = take_more names k block lt ∙ ap (λ b. take k names ++ b ∷ []) (sym is) in
    record {
      left = so ∙ (ap (λ ts. with_barred ts block) before.left ∙ (sym (barred_more old (take k names) block) ∙ ap (all_barred old) (sym more)));
      right = λ at other within_k bad. elim (cases_lt at k) [
        | inl earlier ↦ before.right at other earlier bad
        | inr here ↦
            let at_k : at ≡ k = omega (arith, within_k, here) in
            let same : block ≡ other = is ∙ same_Some (get_or names k block) other (sym (slice_get-get_or names k block lt) ∙ (ap (slice_get names) (sym at_k) ∙ bad.here)) in
            elim bad.wrong [
              | inl past ↦ absurd (omega (arith, past, same, long, within))
              | inr barred ↦ both_ways (get_or now block no_next_page).barred free
                  (ap (λ ts. (get_or ts block no_next_page).barred) before.left ∙ (ap (λ j. (get_or (all_barred old (take j names)) block no_next_page).barred) (sym at_k)
                  ∙ (ap (λ b. (get_or (all_barred old (take at names)) b no_next_page).barred) same ∙ barred)))
            ]
      ];
    }

pub barred_all : (old : List NextState) (names : List ℕ) (k : ℕ) (new : List NextState) → Barred old names k new → length names ≤ k → take k names ≡ names → NamedAll old new names
barred_all old names k new taken le whole = record {
  none = λ at other bad. taken.right at other (omega (arith, le, slice_get_within names at other bad.here)) bad;
  left = taken.left ∙ ap (all_barred old) whole;
}

pub barred_stop : (old : List NextState) (names : List ℕ) (k block n : ℕ) (now left : List NextState) → Barred old names k now → k < length names → block ≡ get_or names k block → n ≡ length old
    → (n ≤ block) ⊎ ((get_or now block no_next_page).barred ≡ true) → left ≡ now → NamedUpTo old left names block
barred_stop old names k block n now left taken lt is long why same = record {
  at = k;
  refused = record {
    here = slice_get-get_or names k block lt ∙ ap Some (sym is);
    wrong = elim why [
      | inl past ↦ inl (omega (arith, past, long))
      | inr barred ↦ inr (ap (λ ts. (get_or ts block no_next_page).barred) (sym taken.left) ∙ barred)
    ];
  };
  first = taken.right;
  left = same ∙ taken.left;
}
