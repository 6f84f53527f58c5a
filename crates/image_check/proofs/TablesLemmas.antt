-- From the bytes that the survey keeps to the newest table pages of the image.
use Rattle.std.proofs.Common.{◌≡◌, ℕ, suc, ◌+◌, ◌-◌, ◌*◌, ◌/◌, ◌%◌, ◌<◌, ◌≤◌, Bool, true, false, List, [], ◌∷◌, length, get_or, Option, Some, None}
use Rattle.std.proofs.Common.{refl, sym, ap, subst, ◌∙◌, inl, inr, arith, slice_get}
use Rattle.std.specs.Prelude.{slice_index, slice_range, is_some, not, IsSome}
use Rattle.std.specs.Int.{w32, from_le_bytes, div_ceil}
use Rattle.std.proofs.lemmas.Bool.{cases_order, cases_lt, lt-ltb, le-ltb}
use Rattle.std.proofs.Common.{All, replicate, take, drop, length-take, length-drop}
use Rattle.std.proofs.lemmas.Option.{slice_get-get_or, slice_get_past}
use Rattle.std.proofs.lemmas.List.{places, length-replicate, get_or-replicate, get_or_default}
use Rattle.bad_blocks.specs.Table.{HasFittingWear, no_table_row}
use Rattle.std.proofs.Math.Nat.{mul-le-mul_right, div-mul-le_self, mul_comm}
use Rattle.std.proofs.lemmas.Grind.{div_ceil_times}
use Rattle.page_layout.specs.declared.geometry.Geometry.{Geometry}
use Rattle.page_layout.specs.declared.record.Key.{Key}
use Rattle.page_layout.specs.declared.record.Key.TheVariants.{Table}
use Rattle.page_layout.specs.declared.record.Record.{Record}
use Rattle.image_check.specs.declared.newest.Newest.{Newest}
use Rattle.image_check.specs.Newest.{place_in, no_newest}
use Rattle.page_layout.specs.Geometry.{entries, translation_pages, table_pages, row_count}
use Rattle.page_layout.specs.Greatest.{place_of}
use Rattle.page_layout.specs.Limits.{IsDataSize}
use Rattle.page_layout.specs.Page.{Image, body_at}
use Rattle.page_layout.specs.Newest.{newest, latest_below, sequence_at}
use Rattle.page_layout.specs.OneArray.{AreDistinct}
use Rattle.page_layout.specs.Array.{marks}
use Rattle.page_layout.specs.Word.{word_at}
use Rattle.page_layout.proofs.ArrayLemmas.{length-marks, latest-newest}
use Rattle.page_layout.proofs.NewestLemmas.{IsOf, newest-is, newest_some, sequence_at-is}
use Rattle.bad_blocks.specs.declared.table.TableRow.{TableRow}
use Rattle.bad_blocks.specs.declared.class.Class.{Class}
use Rattle.bad_blocks.specs.declared.class.Class.TheVariants.{Good, Factory, Grown}
use Rattle.bad_blocks.specs.declared.table.page.TableFault.{TableFault}
use Rattle.bad_blocks.specs.TablePage as table
use Rattle.certificate.specs.Claim.{Claim}
use Rattle.image_check.specs.declared.refusal.Refusal.TheVariants as refusals
use Rattle.image_check.specs.Blocks.{body_in, table_body, word_of_block, IsTableBody, IsTableOf}
use Rattle.image_check.specs.Surveyed.{SurveysKeys, SurveysTables}
use Rattle.image_check.specs.Agrees.{HasNewestTable, HasTables}
use Rattle.image_check.specs.Refused.{IsUnformatted, IsWrong, Tables}
use Rattle.image_check.proofs.PartLemmas.{surveyed_row}

-- ---- whether there are all of them

-- the first n table pages have newest pages
pub record AreThere (g : Geometry) (items : List Newest) (n : ℕ) : Type 0 where
  pub each : (u : ℕ) → u < n → (row : ℕ) × (place_in (get_or items (g.sectors + (translation_pages g + u)) no_newest) ≡ Some row)

pub there_start : (g : Geometry) (items : List Newest) → AreThere g items 0
there_start g items = record { each = λ u l. absurd (omega arith) }

some_of : (o : Option ℕ) → (o ≡ None → ⊥) → (row : ℕ) × (o ≡ Some row)
some_of None h = absurd (h refl)
some_of (Some row) h = (row, refl)

pub there_more : (g : Geometry) (items : List Newest) (n i : ℕ) (d : Newest) → AreThere g items n → i ≡ g.sectors + (translation_pages g + n) → i < length items → (place_in (get_or items i d) ≡ None → ⊥) → AreThere g items (n + 1)
there_more g items n i d h at within some = record {
  each = λ u l. elim (cases_order u n) [
    | inl same ↦
        let here = some_of (place_in (get_or items i d)) some in
        let place : i ≡ g.sectors + (translation_pages g + u) = at ∙ ap (λ k. g.sectors + (translation_pages g + k)) (sym same) in
        (here.0, ap place_in (ap (λ j. get_or items j no_newest) (sym place) ∙ get_or_default items i no_newest d within) ∙ here.1)
    | inr (inl below) ↦ h.each u below
    | inr (inr above) ↦ absurd (omega arith)
  ];
}

pub formatted_of : (g : Geometry) (image : Image) (items : List Newest) (u : ℕ) → AreThere g items (table_pages g) → SurveysKeys g image items → u < table_pages g → HasNewestTable image u
formatted_of g image items u h keys within =
    let e = h.each u within in
    record { row = e.0; newest_is = sym (surveyed_row g image items (g.sectors + (translation_pages g + u)) (Table u) no_newest keys.whole keys.noted within refl) ∙ e.1 }

-- under distinct sequences a key with no newest page has no sound page
none_newest : (marks : List (Option Record)) (key : Key) → AreDistinct marks → newest marks key ≡ None → (row : ℕ) → sequence_at marks key row ≡ None
none_newest marks key distinct none row = by_sequence (sequence_at marks key row) refl
  where
    by_sequence : (o : Option ℕ) → sequence_at marks key row ≡ o → sequence_at marks key row ≡ None
    by_sequence None e = e
    by_sequence (Some s) e =
        let its : IsOf key (get_or marks row None) s = sequence_at-is marks key row s e in
        let some : IsSome (newest marks key) = subst (λ k. IsSome (newest marks k)) its.of_key (newest_some marks row its.its distinct its.is) in
        absurd (let clash : false ≡ true = sym (ap is_some none) ∙ some in cc)

pub unformatted_of : (g : Geometry) (image : Image) (items : List Newest) (u i : ℕ) (d : Newest) → SurveysKeys g image items → u < table_pages g → i ≡ g.sectors + (translation_pages g + u) → place_in (get_or items i d) ≡ None → AreDistinct (marks image) → IsUnformatted g image
unformatted_of g image items u i d keys within at none distinct = record {
  page = u;
  within = within;
  missing = none_newest (marks image) (Table u) distinct (sym (surveyed_row g image items i (Table u) d keys.whole keys.noted within at) ∙ none);
}

-- ---- their bytes

four : (a b c d e f g h : ℕ) → a ≡ e → b ≡ f → c ≡ g → d ≡ h → from_le_bytes w32 (a ∷ b ∷ c ∷ d ∷ []) ≡ from_le_bytes w32 (e ∷ f ∷ g ∷ h ∷ [])
four a b c d e f g h p q r s = rw (p, q, r, s) refl

-- words of equal bytes are equal
word_same : (xs ys : List ℕ) (n j : ℕ) → ((i : ℕ) → i < n → slice_index xs i ≡ slice_index ys i) → j + 4 ≤ n → word_at xs j ≡ word_at ys j
word_same xs ys n j h l = four _ _ _ _ _ _ _ _ (h j (omega arith)) (h (j + 1) (omega arith)) (h (j + 2) (omega arith)) (h (j + 3) (omega arith))

-- the newest table page is the page of its row
pub table_is : (image : Image) (u row : ℕ) → newest (marks image) (Table u) ≡ Some row → table_body image u ≡ body_at image row
unfolding table_body
table_is image u row e = ap (body_in image) e

-- what the survey keeps of a table page is the page
pub body_kept : (g : Geometry) (image : Image) (items : List Newest) (bytes : List ℕ) (u at size : ℕ) (body : List ℕ)
    → SurveysTables g image items bytes → HasNewestTable image u → u < table_pages g → at ≡ u * g.data_bytes → size ≡ g.data_bytes
    → body ≡ slice_range bytes at (at + size) → at + size ≤ length bytes → IsTableBody g image u body
unfolding table_body
body_kept g image items bytes u at size body h formatted within place is_size is room = record {
  same = λ i l.
      let rows : row_count g ≡ length (marks image) = sym (length-marks image ∙ h.whole) in
      let latest : place_of (latest_below (marks image) (Table u) (row_count g)) ≡ Some formatted.row = ap (λ n. place_of (latest_below (marks image) (Table u) n)) rows ∙ (sym (latest-newest (marks image) (Table u)) ∙ formatted.newest_is) in
      let kept = h.kept.at u formatted.row i within (omega arith) latest in
      let read : slice_index body i ≡ get_or bytes (u * g.data_bytes + i) 0 = ap (λ b. slice_index b i) is ∙ read_in bytes at size i (u * g.data_bytes + i) (omega arith) (omega arith) in
      read ∙ (kept ∙ ap (λ r. slice_index (body_in image r) i) (sym formatted.newest_is));
}
  where
    read_in : (xs : List ℕ) (at size i j : ℕ) → j ≡ at + i → i < size → slice_index (slice_range xs at (at + size)) i ≡ get_or xs j 0
    read_in xs at size i j e l = grind (arith, places)

word_kept : (g : Geometry) (image : Image) (u i : ℕ) (body : List ℕ) → IsTableBody g image u body → i < entries g → word_at body (4 * i) ≡ word_at (table_body image u) (4 * i)
word_kept g image u i body h l = word_same body (table_body image u) (4 * entries g) (4 * i) h.same (omega arith)

pub formed_of : (g : Geometry) (image : Image) (u : ℕ) (body : List ℕ) → IsTableBody g image u body → table.IsWellFormed (entries g) g.blocks u body → table.IsWellFormed (entries g) g.blocks u (table_body image u)
formed_of g image u body h formed = record {
  right = λ i l. rw (← word_kept g image u i body h l) (formed.right i l);
}

damaged_of : (g : Geometry) (image : Image) (u : ℕ) (body : List ℕ) (fault : TableFault) → IsTableBody g image u body → table.IsFirstWrongWord (entries g) g.blocks u body fault → table.IsWellFormed (entries g) g.blocks u (table_body image u) → ⊥
damaged_of g image u body fault h wrong formed =
    let t = formed.right wrong.place wrong.within in
    let f = rw (word_kept g image u wrong.place body h wrong.within) at wrong.wrong in
    let clash : true ≡ false = sym t ∙ f in
    cc

-- ---- reading them

-- the first n table pages are well formed, and the table has their rows
pub record AreTaken (g : Geometry) (image : Image) (n : ℕ) (rows : List TableRow) : Type 0 where
  pub formed : (u : ℕ) → u < n → table.IsWellFormed (entries g) g.blocks u (table_body image u)
  pub taken : (u i : ℕ) → u < n → i < entries g → word_at (table_body image u) (4 * i) ≡ table.table_word rows (u * entries g + i)

pub taken_start : (g : Geometry) (image : Image) (rows : List TableRow) → AreTaken g image 0 rows
taken_start g image rows = record { formed = λ u l. absurd (omega arith); taken = λ u i l m. absurd (omega arith) }

code_low : (class : Class) → table.code_of_class class < 3
code_low Good = omega arith
code_low Factory = omega arith
code_low Grown = omega arith

low_left : (code wear : ℕ) → code < 3 → (code + 256 * wear) % 256 < 3
low_left code wear l = omega arith

-- a word of a table is right
word_right : (rows : List TableRow) (b : ℕ) → table.is_right (length rows) b (table.table_word rows b) ≡ true
word_right rows b = elim (cases_lt b (length rows)) [
  | inl within ↦
      let row : TableRow = get_or rows b (record { class = Good; wear = 0 }) in
      let at : slice_get rows b ≡ Some row = slice_get-get_or rows b (record { class = Good; wear = 0 }) within in
      let word : table.table_word rows b ≡ table.word_of row = ap table.word_or_padding at in
      let low = low_left (table.code_of_class row.class) row.wear (code_low row.class) in
      rw (word, lt-ltb b (length rows) within) (lt-ltb (table.word_of row % 256) 3 low)
  | inr past ↦
      let word : table.table_word rows b ≡ table.padding = ap table.word_or_padding (slice_get_past rows b past) in
      rw (word, le-ltb b (length rows) past) refl
]

-- a page that a table spells is well formed
page_formed : (n : ℕ) (rows : List TableRow) (u : ℕ) (bytes : List ℕ) → table.IsTablePage n rows u bytes → table.IsWellFormed n (length rows) u bytes
page_formed n rows u bytes h = record { right = λ i l. rw (h.words i l) (word_right rows (u * n + i)) }

pub taken_more : (g : Geometry) (image : Image) (u : ℕ) (old new : List TableRow) (body : List ℕ) → length old ≡ g.blocks → AreTaken g image u old
    → IsTableBody g image u body → table.IsTablePage (entries g) new u body → table.KeepsOthers (entries g) u old new → AreTaken g image (u + 1) new
taken_more g image u old new body size h kept page others = record {
  formed = λ v l. elim (cases_order v u) [
    | inl same ↦ subst (λ k. table.IsWellFormed (entries g) g.blocks k (table_body image k)) (sym same) (formed_of g image u body kept (subst (λ k. table.IsWellFormed (entries g) k u body) (others.length_same ∙ size) (page_formed (entries g) new u body page)))
    | inr (inl below) ↦ h.formed v below
    | inr (inr above) ↦ absurd (omega arith)
  ];
  taken = λ v i l m. elim (cases_order v u) [
    | inl same ↦ subst (λ k. word_at (table_body image k) (4 * i) ≡ table.table_word new (k * entries g + i)) (sym same) (sym (word_kept g image u i body kept m) ∙ page.words i m)
    | inr (inl below) ↦
        let room : suc v * entries g ≤ u * entries g = mul-le-mul_right (entries g) below in
        let one : suc v * entries g ≡ v * entries g + entries g = omega arith in
        h.taken v i below m ∙ ap table.word_or_padding (sym (others.others (v * entries g + i) (inl (omega arith))))
    | inr (inr above) ↦ absurd (omega arith)
  ];
}

-- ---- all of them

-- what is known once all pages are read
pub tables_hold : (g : Geometry) (image : Image) (rows : List TableRow) → ((v : ℕ) → v < table_pages g → HasNewestTable image v) → AreTaken g image (table_pages g) rows → HasTables g image
tables_hold g image rows formatted taken = record {
  formatted = formatted;
  formed = taken.formed;
}

-- the table page that a block is in
in_pages : (blocks n b : ℕ) → 0 < n → b < blocks → b / n < div_ceil blocks n
in_pages blocks n b some l =
    let enough = (div_ceil_times blocks n some).0 in
    let parts = div-mul-le_self b n in
    elim (cases_lt (b / n) (div_ceil blocks n)) [
      | inl below ↦ below
      | inr past ↦ absurd (let room : div_ceil blocks n * n ≤ b / n * n = mul-le-mul_right n past in omega arith)
    ]

pub table_of : (g : Geometry) (image : Image) (rows : List TableRow) → length rows ≡ g.blocks → AreTaken g image (table_pages g) rows → IsTableOf g image rows
unfolding word_of_block
table_of g image rows size h = record {
  size = size;
  word = λ b l.
      let some : 0 < entries g = let least = g.limits.data_size.least in omega arith in
      let whole = mul_comm (entries g) (b / entries g) in
      let parts : (b / entries g) * entries g + b % entries g ≡ b = omega arith in
      h.taken (b / entries g) (b % entries g) (in_pages g.blocks (entries g) b some l) (omega arith) ∙ ap (table.table_word rows) parts;
}

pub tables_damaged : (g : Geometry) (capacity : ℕ) (image : Image) (claim : Claim) (u : ℕ) (rows : List TableRow) (body : List ℕ) (fault : TableFault)
    → ((v : ℕ) → v < table_pages g → HasNewestTable image v) → AreTaken g image u rows → u < table_pages g → IsTableBody g image u body
    → table.IsFirstWrongWord (entries g) g.blocks u body fault → IsWrong g capacity image claim Tables (refusals.TableDamaged u)
tables_damaged g capacity image claim u rows body fault formatted taken within kept wrong = record {
  part_is = refl;
  fails = λ (all : HasTables g image). damaged_of g image u body fault kept wrong (all.formed u within);
  says = record {
    within = within;
    wrong = damaged_of g image u body fault kept wrong;
    before = taken.formed;
    there = λ v l e. (let f = formatted v l in let clash : None ≡ Some f.row = sym e ∙ f.newest_is in cc);
  };
}

pub tables_missing : (g : Geometry) (capacity : ℕ) (image : Image) (claim : Claim) → IsUnformatted g image → IsWrong g capacity image claim Tables refusals.NotFormatted
tables_missing g capacity image claim h = record {
  part_is = refl;
  fails = λ (all : HasTables g image). (
      let f = all.formatted h.page h.within in
      let is = newest-is (marks image) (Table h.page) f.row f.newest_is in
      let clash : None ≡ Some is.value = sym (h.missing f.row) ∙ is.here in cc);
  says = h;
}

pub row_none : (o : Option ℕ) (b : Bool) → is_some o ≡ not b → b ≡ true → o ≡ None
row_none None b e t = refl
row_none (Some row) b e t = absurd (let f : true ≡ false = e ∙ ap not t in cc)

pub row_some : (o : Option ℕ) (b : Bool) → is_some o ≡ not b → b ≡ false → o ≡ None → ⊥
row_some None b e t f = (let g : false ≡ true = e ∙ ap not t in cc)
row_some (Some row) b e t f = absurd cc

-- a page that was read or refused, as a whole number of words
pub data_size : (g : Geometry) (n : ℕ) → n ≡ g.data_bytes → IsDataSize n
data_size g n e = subst IsDataSize (sym e) g.limits.data_size

pub keys_of : (g : Geometry) (image : Image) (items given : List Newest) (bytes : List ℕ) → SurveysTables g image items bytes → given ≡ items → SurveysKeys g image given
keys_of g image items given bytes h e = subst (λ xs. SurveysKeys g image xs) (sym e) (record { whole = h.whole; noted = h.noted })

pub room_of : (u pages at size each total : ℕ) → u < pages → at ≡ u * each → size ≤ each → total ≡ pages * each → at + size ≤ total
room_of u pages at size each total l e s t =
    let room : suc u * each ≤ pages * each = mul-le-mul_right each l in
    let one : suc u * each ≡ u * each + each = omega arith in
    omega arith

pub damage_of : (n m blocks rows u : ℕ) (bytes : List ℕ) (fault : TableFault) → n ≡ m → rows ≡ blocks → table.IsFirstWrongWord n rows u bytes fault → table.IsFirstWrongWord m blocks u bytes fault
damage_of n m blocks rows u bytes fault e f h = subst (λ k. table.IsFirstWrongWord k blocks u bytes fault) e (subst (λ b. table.IsFirstWrongWord n b u bytes fault) f h)

-- rows of blocks that were never erased
pub blank_counted : (n : ℕ) → All HasFittingWear (replicate n no_table_row)
blank_counted n k d l = let e : get_or (replicate n no_table_row) k d ≡ no_table_row = get_or-replicate n k no_table_row d (omega (arith, length-replicate n no_table_row)) in subst HasFittingWear (sym e) (record { most = omega arith })

pub sliced : (xs : List ℕ) (at size : ℕ) → at + size ≤ length xs → length (take (at + size - at) (drop at xs)) ≡ size
sliced xs at size l = omega (arith, length-take (at + size - at) (drop at xs), length-drop at xs)
