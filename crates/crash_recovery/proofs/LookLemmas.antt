-- What a look at a page says of a block.
use Rattle.std.proofs.Common.{◌≡◌, ◌≢◌, inl, inr, ◌<◌, ◌≤◌, ◌+◌, ◌*◌, ◌/◌, ◌%◌, ℕ, Bool, true, false, not, List, length, get_or, slice_get, take, Option, Some, None, IsSome, refl, sym, ap, ◌∙◌, subst, arith}
use Rattle.std.specs.Prelude.{◌==◌, slice_set, is_ok, OnOk, OnErr, IfOk, Result, Ok, Err}
use Rattle.std.proofs.lemmas.List.{get_or-set_same, get_or-set_other}
use Rattle.std.proofs.lemmas.Bool.{both_ways, cases_eq, eqb-true}
use Rattle.std.proofs.lemmas.Grind.{div_ceil_times}
use Rattle.std.proofs.lemmas.Nat.{div_below}
use Rattle.std.proofs.lemmas.Option.{slice_get-get_or}
use Rattle.page_layout.specs.declared.geometry.Geometry.{Geometry}
use Rattle.page_layout.specs.declared.record.Key.TheVariants.{Table}
use Rattle.page_layout.specs.declared.record.Record.{Record}
use Rattle.page_layout.specs.Geometry.{entries, row_count, table_pages, translation_pages}
use Rattle.page_layout.specs.Page.{Image, Page}
use Rattle.page_layout.specs.Flash.{no_page}
use Rattle.page_layout.specs.Sound.{record_of}
use Rattle.page_layout.specs.Newest.{newest}
use Rattle.page_layout.specs.Live.{live}
use Rattle.page_layout.specs.Array.{marks}
use Rattle.page_layout.specs.Word.{word_at}
use Rattle.page_layout.proofs.ArrayLemmas.{body_page}
use Rattle.page_layout.proofs.GeometryLemmas.{row_within}
use Rattle.page_layout.proofs.NewestLemmas.{newest-record}
use Rattle.onfi_cycles.specs.Cycles.{page_of}
use Rattle.certificate.specs.declared.block_state.BlockState.{BlockState}
use Rattle.certificate.specs.Claim.{Claim}
use Rattle.file_die.specs.Store.{page_in}
use Rattle.image_check.specs.Agrees.{Agrees}
use Rattle.image_check.specs.Blocks.{body_in, class, table_body, table_class, word_of_block}
use Rattle.crash_recovery.specs.Torn.{FindsCut, FindsCuts, FindsDead, HasSoundRun, IsDead, IsTorn, NoneIsMarked, row_in}
use Rattle.crash_recovery.proofs.Rows.{mark_in, mark_within}

-- ---- the table

some_entries : (g : Geometry) → 0 < entries g
some_entries g = let least = g.limits.data_size.least in omega arith

table_within : (g : Geometry) (block : ℕ) → block < g.blocks → block / entries g < table_pages g
table_within g block lt = div_below block (entries g) (table_pages g) (some_entries g) (omega (arith, lt, (div_ceil_times g.blocks (entries g) (some_entries g)).0))

pub key_within : (g : Geometry) (block t e n : ℕ) → block < g.blocks → t ≡ translation_pages g → e ≡ entries g → n ≡ translation_pages g + table_pages g → t + block / e < n
key_within g block t e n lt is_t is_e is_n = rw (is_t, is_e, is_n) (omega (arith, table_within g block lt))

some_some : {A : Type 0} (a b : Option A) → Some a ≡ Some b → a ≡ b
some_some a b e = cc

-- the row of the table page that the certificate tells
pub table_row : (g : Geometry) (capacity : ℕ) (image : Image) (c : Claim) (block t e : ℕ) (found : Option ℕ) → Agrees g capacity image c → block < g.blocks → t ≡ translation_pages g → e ≡ entries g
    → slice_get c.directory (t + block / e) ≡ Some found → newest (marks image) (Table (block / entries g)) ≡ found
table_row g capacity image c block t e found agrees lt is_t is_e at =
    let there : slice_get c.directory (translation_pages g + block / entries g) ≡ Some found = rw (sym is_t, sym is_e) at in
    some_some _ _ (sym (agrees.directory.table (block / entries g) (table_within g block lt)) ∙ there)

pub table_there : (g : Geometry) (capacity : ℕ) (image : Image) (c : Claim) (block t e : ℕ) (found : Option ℕ) → Agrees g capacity image c → block < g.blocks → t ≡ translation_pages g → e ≡ entries g
    → slice_get c.directory (t + block / e) ≡ Some found → found ≡ None → ⊥
table_there g capacity image c block t e found agrees lt is_t is_e at none =
    let formatted = agrees.tables.formatted (block / entries g) (table_within g block lt) in
    let is : Some formatted.row ≡ None = sym formatted.newest_is ∙ (table_row g capacity image c block t e found agrees lt is_t is_e at ∙ none) in
    cc

pub named_word : (g : Geometry) (image : Image) (block row e word : ℕ) (bytes body : List ℕ) → newest (marks image) (Table (block / entries g)) ≡ Some row → page_of g bytes ≡ page_in image row
    → body ≡ take g.data_bytes bytes → e ≡ entries g → word ≡ word_at body (4 * (block % e)) → (word % 256 == 2) ≡ (table_class g image block == 2)
unfolding word_of_block table_body
named_word g image block row e word bytes body is gave front is_e read =
    let its = newest-record (marks image) (Table (block / entries g)) row is in
    let within : row < length image = mark_within image row its.0 its.1 in
    let there : body_in image (Some row) ≡ (page_in image row).body = body_page image row (page_in image row) (slice_get-get_or image row no_page within) in
    let here : body ≡ body_in image (newest (marks image) (Table (block / entries g))) = front ∙ (ap (λ (p : Page). p.body) gave ∙ (sym there ∙ ap (body_in image) (sym is))) in
    ap (λ w. w % 256 == 2) (read ∙ (ap (λ bs. word_at bs (4 * (block % e))) here ∙ ap (λ n. word_at (body_in image (newest (marks image) (Table (block / entries g)))) (4 * (block % n))) is_e))

-- ---- a torn block

some_state : (a b : BlockState) → Some a ≡ Some b → a ≡ b
some_state a b e = cc

pub class_told : (g : Geometry) (capacity : ℕ) (image : Image) (c : Claim) (block : ℕ) (s : BlockState) → Agrees g capacity image c → block < g.blocks → slice_get c.blocks block ≡ Some s → s.class ≡ class g image block
class_told g capacity image c block s agrees lt at =
    let told = agrees.states.state block lt in
    ap (λ (x : BlockState). x.class) (some_state s told.0 (sym at ∙ told.1)) ∙ told.2.0

pub live_told : (g : Geometry) (capacity : ℕ) (image : Image) (c : Claim) (block : ℕ) (s : BlockState) → Agrees g capacity image c → block < g.blocks → slice_get c.blocks block ≡ Some s → s.live ≡ live g (marks image) block
live_told g capacity image c block s agrees lt at =
    let told = agrees.live.state block lt in
    ap (λ (x : BlockState). x.live) (some_state s told.0 (sym at ∙ told.1)) ∙ told.2

pub torn_unnamed : (g : Geometry) (image : Image) (block : ℕ) (named : Bool) → class g image block ≡ 5 → named ≡ (table_class g image block == 2) → not named ≡ true → IsTorn g image block
torn_unnamed g image block true shows is denied = absurd (cc)
torn_unnamed g image block false shows is denied = record {
  shows = shows;
  unnamed = λ two. both_ways (table_class g image block == 2) (sym is) (ap (λ n. n == 2) two);
}

pub whole_named : (g : Geometry) (image : Image) (block : ℕ) (named : Bool) → named ≡ (table_class g image block == 2) → not named ≡ false → ¬ IsTorn g image block
whole_named g image block true is denied torn = torn.unnamed (eqb-true (table_class g image block) 2 (sym is))
whole_named g image block false is denied torn = absurd (cc)

-- ---- its sound pages

abbrev pub SoundBelow : Geometry → Image → (block below : ℕ) → Type 0
SoundBelow g image block below = (k : ℕ) → k < below → IsSome (get_or (marks image) (row_in g block k) None)

pub sound_start : (g : Geometry) (image : Image) (block : ℕ) → SoundBelow g image block 0
sound_start g image block k less = absurd (omega (arith, less))

mark_of : (g : Geometry) (image : Image) (block k row : ℕ) (its : Option Record) → length image ≡ row_count g → block < g.blocks → k < g.pages → row ≡ row_in g block k → its ≡ record_of (page_in image row)
    → get_or (marks image) (row_in g block k) None ≡ its
mark_of g image block k row its rows lt within is read =
    mark_in image (row_in g block k) (subst (λ n. row_in g block k < n) (sym rows) (row_within g block k lt within)) ∙ (ap (λ r. record_of (page_in image r)) (sym is) ∙ sym read)

pub sound_more : (g : Geometry) (image : Image) (block k row : ℕ) (its : Option Record) → length image ≡ row_count g → block < g.blocks → k < g.pages → row ≡ row_in g block k → its ≡ record_of (page_in image row)
    → IsSome its → SoundBelow g image block k → SoundBelow g image block (k + 1)
sound_more g image block k row its rows lt within is read some below j less = elim (cases_eq j k) [
  | inl same ↦ subst (λ n. IsSome (get_or (marks image) (row_in g block n) None)) (sym same) (subst IsSome (sym (mark_of g image block k row its rows lt within is read)) some)
  | inr apart ↦ below j (omega (arith, less, apart))
]

pub run_ends : (g : Geometry) (image : Image) (block k row : ℕ) (its : Option Record) → length image ≡ row_count g → block < g.blocks → k < g.pages → row ≡ row_in g block k → its ≡ record_of (page_in image row)
    → its ≡ None → SoundBelow g image block k → HasSoundRun g image block k
run_ends g image block k row its rows lt within is read none below = record {
  most = omega (arith, within);
  sound = below;
  past = λ less. mark_of g image block k row its rows lt within is read ∙ none;
}

pub run_all : (g : Geometry) (image : Image) (block n : ℕ) → g.pages ≤ n → SoundBelow g image block n → HasSoundRun g image block g.pages
run_all g image block n most below = record {
  most = omega arith;
  sound = λ k less. below k (omega (arith, less, most));
  past = λ never. absurd (omega arith);
}

-- ---- and which are marked

pub record UnmarkedBelow (g : Geometry) (image : Image) (mark block from below : ℕ) : Type 0 where
  pub unmarked : (k : ℕ) (r : Record) → from ≤ k → k < below → get_or (marks image) (row_in g block k) None ≡ Some r → mark ≤ r.sequence

pub unmarked_start : (g : Geometry) (image : Image) (mark block from : ℕ) → UnmarkedBelow g image mark block from from
unmarked_start g image mark block from = record { unmarked = λ k r le less has. absurd (omega arith) }

pub unmarked_more : (g : Geometry) (image : Image) (mark block from k row : ℕ) (its : Option Record) → length image ≡ row_count g → block < g.blocks → k < g.pages → row ≡ row_in g block k → its ≡ record_of (page_in image row)
    → ((r : Record) → its ≡ Some r → mark ≤ r.sequence) → UnmarkedBelow g image mark block from k → UnmarkedBelow g image mark block from (k + 1)
unmarked_more g image mark block from k row its rows lt within is read late below = record {
  unmarked = λ j r le less has. elim (cases_eq j k) [
    | inl same ↦ late r (sym (mark_of g image block k row its rows lt within is read) ∙ (ap (λ n. get_or (marks image) (row_in g block n) None) (sym same) ∙ has))
    | inr apart ↦ below.unmarked j r le (omega (arith, less, apart)) has
  ];
}

pub unmarked_all : (g : Geometry) (image : Image) (mark block from n : ℕ) → g.pages ≤ n → UnmarkedBelow g image mark block from n → NoneIsMarked g image mark block from
unmarked_all g image mark block from n most below = record { unmarked = λ k r le less has. below.unmarked k r le (omega (arith, less, most)) has }

pub marked_here : (g : Geometry) (image : Image) (mark block from k row : ℕ) (its : Option Record) (r : Record) → length image ≡ row_count g → block < g.blocks → from ≤ k → k < g.pages → row ≡ row_in g block k
    → its ≡ record_of (page_in image row) → its ≡ Some r → r.sequence < mark → ¬ NoneIsMarked g image mark block from
marked_here g image mark block from k row its r rows lt le within is read some early none =
    omega (arith, early, none.unmarked k r le within (mark_of g image block k row its rows lt within is read ∙ some))

-- ---- answers of calls

pub some_is : {A : Type 0} (its : Option A) (x : A) → its ≡ Some x → IsSome its
some_is None x is = absurd (let clash : None ≡ Some x = is in cc)
some_is (Some y) x is = refl

pub late_some : (mark : ℕ) (its : Option Record) (found r : Record) → its ≡ Some found → mark ≤ found.sequence → its ≡ Some r → mark ≤ r.sequence
late_some mark its found r is late some =
    let same : Some found ≡ Some r = sym is ∙ some in
    subst (λ (x : Record). mark ≤ x.sequence) (one found r same) late
  where
    one : (a b : Record) → Some a ≡ Some b → a ≡ b
    one a b e = cc

pub late_none : (mark : ℕ) (its : Option Record) (r : Record) → its ≡ None → its ≡ Some r → mark ≤ r.sequence
late_none mark its r none some = absurd (let clash : None ≡ Some r = sym none ∙ some in cc)

pub on_ok : {A B : Type 0} (result : Result A B) (P : Type 0) → (is_ok result ≡ true → P) → OnOk result P
on_ok (Ok x) P f = f refl
on_ok (Err e) P f = tt

pub if_ok : {A B : Type 0} (result : Result A B) (P Q : A → Type 0) → ((x : A) → P x → Q x) → IfOk result P → IfOk result Q
if_ok (Ok x) P Q f p = f x p
if_ok (Err e) P Q f p = tt

pub on_ok_to : {A B : Type 0} (result : Result A B) (P Q : Type 0) → (P → Q) → OnOk result P → OnOk result Q
on_ok_to (Ok x) P Q f p = f p
on_ok_to (Err e) P Q f p = tt

-- ---- one block more

pub cuts_more : (g : Geometry) (image : Image) (mark k from : ℕ) (cuts : List ℕ) → k < length cuts → FindsCuts g image mark k cuts → FindsCut g image mark k from → FindsCuts g image mark (k + 1) (slice_set cuts k from)
cuts_more g image mark k from cuts within before found = record {
  each = λ block below. elim (cases_eq block k) [
    | inl same ↦ subst (λ b. FindsCut g image mark b (get_or (slice_set cuts k from) b 0)) (sym same) (subst (FindsCut g image mark k) (sym (get_or-set_same cuts k from 0 within)) found)
    | inr apart ↦ subst (FindsCut g image mark block) (sym (get_or-set_other cuts k block from 0 apart)) (before.each block (omega (arith, below, apart)))
  ];
}

pub cuts_all : (g : Geometry) (image : Image) (mark n : ℕ) (cuts : List ℕ) → g.blocks ≤ n → FindsCuts g image mark n cuts → FindsCuts g image mark g.blocks cuts
cuts_all g image mark n cuts most found = record { each = λ block below. found.each block (omega (arith, below, most)) }

pub dead_start : (g : Geometry) (image : Image) (dead : List Bool) → FindsDead g image 0 dead
dead_start g image dead = record { is = λ block below told. absurd (omega (arith, below)); not = λ block below told. absurd (omega (arith, below)) }

pub dead_more : (g : Geometry) (image : Image) (k : ℕ) (is : Bool) (dead : List Bool) → k < length dead → FindsDead g image k dead → (is ≡ true → IsDead g image k) → (is ≡ false → ¬ IsDead g image k)
    → FindsDead g image (k + 1) (slice_set dead k is)
dead_more g image k is dead within before told_so isnt = record {
  is = λ block below told. elim (cases_eq block k) [
    | inl same ↦ subst (λ b. IsDead g image b) (sym same) (told_so (sym (get_or-set_same dead k is false within) ∙ (ap (λ b. get_or (slice_set dead k is) b false) (sym same) ∙ told)))
    | inr apart ↦ before.is block (omega (arith, below, apart)) (sym (get_or-set_other dead k block is false apart) ∙ told)
  ];
  not = λ block below told. elim (cases_eq block k) [
    | inl same ↦ subst (λ b. ¬ IsDead g image b) (sym same) (isnt (sym (get_or-set_same dead k is false within) ∙ (ap (λ b. get_or (slice_set dead k is) b false) (sym same) ∙ told)))
    | inr apart ↦ before.not block (omega (arith, below, apart)) (sym (get_or-set_other dead k block is false apart) ∙ told)
  ];
}

-- by the pages that live in it, and whether it is torn
pub dead_spared : (g : Geometry) (capacity : ℕ) (image : Image) (c : Claim) (k : ℕ) (s : BlockState) (dead : List Bool) → k < length dead → k < g.blocks → Agrees g capacity image c → slice_get c.blocks k ≡ Some s → s.live ≢ 0 → FindsDead g image k dead
    → FindsDead g image (k + 1) (slice_set dead k false)
dead_spared g capacity image c k s dead within inside agrees at some before =
    dead_more g image k false dead within before (λ never. absurd (cc)) (λ e its. some (live_told g capacity image c k s agrees inside at ∙ its.none))

pub dead_torn : (g : Geometry) (capacity : ℕ) (image : Image) (c : Claim) (k : ℕ) (s : BlockState) (torn : Bool) (dead : List Bool) → k < length dead → k < g.blocks → Agrees g capacity image c → slice_get c.blocks k ≡ Some s → s.live ≡ 0
    → (torn ≡ true → IsTorn g image k) → (torn ≡ false → ¬ IsTorn g image k) → FindsDead g image k dead → FindsDead g image (k + 1) (slice_set dead k torn)
dead_torn g capacity image c k s torn dead within inside agrees at none told_so isnt before = dead_more g image k torn dead within before
    (λ e. record { torn = told_so e; none = sym (live_told g capacity image c k s agrees inside at) ∙ none }) (λ e its. isnt e its.torn)

pub dead_all : (g : Geometry) (image : Image) (n : ℕ) (dead : List Bool) → g.blocks ≤ n → FindsDead g image n dead → FindsDead g image g.blocks dead
dead_all g image n dead most found = record {
  is = λ block below. found.is block (omega (arith, below, most));
  not = λ block below. found.not block (omega (arith, below, most));
}

pub if_ok_all : {A B : Type 0} (result : Result A B) (P Q R Z : A → Type 0) → ((x : A) → P x → Q x → R x → Z x) → IfOk result P → IfOk result Q → IfOk result R → IfOk result Z
if_ok_all (Ok x) P Q R Z f p q r = f x p q r
if_ok_all (Err e) P Q R Z f p q r = tt

pub on_err : {A B : Type 0} (result : Result A B) (P : Type 0) → P → OnErr result P
on_err (Ok x) P p = tt
on_err (Err e) P p = p
