-- One page more in what is known of the keys.
use Rattle.std.proofs.Common.{◌≡◌, ◌≢◌, ◌↔◌, ℕ, ◌+◌, ◌<◌, Bool, true, false, List, length, get_or, set, length-set, Some, None}
use Rattle.std.proofs.Common.{refl, sym, ap, subst, ◌∙◌, arith, inl, inr, slice_get, get_or-set_same, get_or-set_other}
use Rattle.std.proofs.lemmas.Bool.{cases_order, cases_eq}
use Rattle.std.proofs.lemmas.List.{get_or_default}
use Rattle.page_layout.specs.declared.geometry.Geometry.{Geometry}
use Rattle.page_layout.specs.declared.record.Key.{Key}
use Rattle.page_layout.specs.declared.record.Key.TheVariants.{Table}
use Rattle.page_layout.specs.declared.newest.Latest.{Latest}
use Rattle.page_layout.specs.declared.newest.Latest.TheVariants.{Never, Once, Tied}
use Rattle.page_layout.specs.Geometry.{row_count, table_pages, entries}
use Rattle.page_layout.specs.Page.{Page, Image, body_at}
use Rattle.page_layout.specs.Greatest.{place_of}
use Rattle.page_layout.specs.Newest.{newest, latest_below, sequence_at}
use Rattle.page_layout.specs.Live.{IsKeyOf}
use Rattle.page_layout.specs.Array.{marks}
use Rattle.page_layout.proofs.ArrayLemmas.{body_page, length-marks, latest-newest}
use Rattle.bad_blocks.specs.TablePage.{IsWellFormed}
use Rattle.image_check.specs.Blocks.{table_body}
use Rattle.image_check.specs.Survey.{index_of}
use Rattle.image_check.proofs.TableLemmas.{step_place}
use Rattle.image_check.proofs.TablesLemmas.{table_is}
use Rattle.image_check.proofs.SurveyLemmas.{latest_more, latest_other, latest_start, index_within}
use Rattle.lab_dump.specs.declared.held.KeyState.{KeyState}
use Rattle.lab_dump.specs.declared.held.KeyState.TheVariants.{Absent, Found}
use Rattle.lab_dump.specs.Held.{state_by}
use Rattle.lab_dump.specs.declared.trace.Trace.{Trace}
use Rattle.lab_dump.specs.declared.trace.Trace.TheVariants as trace
use Rattle.lab_dump.specs.Doubting.{HasTraces}
use Rattle.lab_dump.specs.Keys.{HasFormed, key_state}
use Rattle.lab_dump.specs.Trace.{key_state_in}
use Rattle.lab_dump.proofs.TraceLemmas.{tells_state}

-- ---- whether a table page is well formed

-- what is said of table page u's newest page, where that is in this row
abbrev pub Says : Geometry → Image → ℕ → ℕ → Bool → Type 0
Says g image u row is = (is ≡ true) ↔ IsWellFormed (entries g) g.blocks u (body_at image row)

stays_other : (g : Geometry) (image : Image) (row u q : ℕ) (formed : List Bool) → HasFormed g image row formed
    → sequence_at (marks image) (Table u) row ≡ None → u < table_pages g → place_of (latest_below (marks image) (Table u) (row + 1)) ≡ Some q
    → Says g image u q (get_or formed u false)
stays_other g image row u q formed h none ku e = h.at u q ku (ap place_of (sym (latest_other (marks image) (Table u) row none)) ∙ e)

-- the page isn't sound, or it is of another kind or out of range
pub formed_stays : (g : Geometry) (image : Image) (row : ℕ) (formed : List Bool) → HasFormed g image row formed → ((u : ℕ) → u < table_pages g → sequence_at (marks image) (Table u) row ≡ None) → HasFormed g image (row + 1) formed
formed_stays g image row formed h none = record { size = h.size; at = λ u q ku e. stays_other g image row u q formed h (none u ku) ku e }

-- the page is of table page v, and isn't its newest
pub formed_old : (g : Geometry) (image : Image) (row v : ℕ) (formed : List Bool) → HasFormed g image row formed
    → ((u : ℕ) → u ≢ v → sequence_at (marks image) (Table u) row ≡ None) → place_of (latest_below (marks image) (Table v) (row + 1)) ≢ Some row
    → HasFormed g image (row + 1) formed
formed_old g image row v formed h none older = record {
  size = h.size;
  at = λ u q ku e. elim (cases_eq u v) [
    | inl same ↦
        let at_v : place_of (latest_below (marks image) (Table v) (row + 1)) ≡ Some q = subst (λ (x : ℕ). place_of (latest_below (marks image) (Table x) (row + 1)) ≡ Some q) same e in
        elim (step_place (latest_below (marks image) (Table v) row) row q (sequence_at (marks image) (Table v) row) (ap place_of (sym (latest_more (marks image) (Table v) row)) ∙ at_v)) [
          | inl is_row ↦ absurd (older (at_v ∙ ap Some is_row))
          | inr before ↦ h.at u q ku (subst (λ (x : ℕ). place_of (latest_below (marks image) (Table x) row) ≡ Some q) (sym same) before)
        ]
    | inr ne ↦ stays_other g image row u q formed h (none u ne) ku e
  ];
}

-- the page is the newest of table page v
pub formed_new : (g : Geometry) (image : Image) (row v : ℕ) (formed : List Bool) (is : Bool) → HasFormed g image row formed → v < table_pages g
    → ((u : ℕ) → u ≢ v → sequence_at (marks image) (Table u) row ≡ None) → place_of (latest_below (marks image) (Table v) (row + 1)) ≡ Some row
    → Says g image v row is → HasFormed g image (row + 1) (set formed v is)
formed_new g image row v formed is h kv none newest says =
    let in_items : v < length formed = omega (arith, h.size) in
    record {
      size = length-set formed v is ∙ h.size;
      at = λ u q ku e. elim (cases_eq u v) [
        | inl same ↦
            let at_v : place_of (latest_below (marks image) (Table v) (row + 1)) ≡ Some q = subst (λ (x : ℕ). place_of (latest_below (marks image) (Table x) (row + 1)) ≡ Some q) same e in
            let q_row : row ≡ q = (let both : Some row ≡ Some q = sym newest ∙ at_v in cc) in
            subst (λ (x : ℕ). Says g image x q (get_or (set formed v is) x false)) (sym same)
            (subst (λ b. Says g image v q b) (sym (get_or-set_same formed v is false in_items)) (subst (λ k. Says g image v k is) q_row says))
        | inr ne ↦ subst (λ b. Says g image u q b) (sym (get_or-set_other formed v u is false ne)) (stays_other g image row u q formed h (none u ne) ku e)
      ];
    }

pub formed_says : (g : Geometry) (image : Image) (row v n blocks : ℕ) (body : List ℕ) (p : Page) (is : Bool) → ((is ≡ true) ↔ IsWellFormed n blocks v body) → n ≡ entries g → blocks ≡ g.blocks → body ≡ p.body → slice_get image row ≡ Some p → Says g image v row is
formed_says g image row v n blocks body p is h size many copied at =
    subst (λ k. (is ≡ true) ↔ IsWellFormed k g.blocks v (body_at image row)) size
    (subst (λ k. (is ≡ true) ↔ IsWellFormed n k v (body_at image row)) many
    (subst (λ (b : List ℕ). (is ≡ true) ↔ IsWellFormed n blocks v b) (copied ∙ sym (body_page image row p at)) h))

pub formed_start : (g : Geometry) (image : Image) (formed : List Bool) → length formed ≡ table_pages g → HasFormed g image 0 formed
formed_start g image formed size = record {
  size = size;
  at = λ u q ku e. absurd (let clash : None ≡ Some q = ap place_of (sym (latest_start (marks image) (Table u))) ∙ e in cc);
}

-- ---- how a key stands

-- the first n states are those
pub record AreStated (traces : List Trace) (n : ℕ) (states : List KeyState) : Type 0 where
  pub size : length states ≡ length traces
  pub each : (i : ℕ) → i < n → get_or states i Absent ≡ key_state_in (get_or traces i trace.Never)

pub stated_more : (traces : List Trace) (n : ℕ) (states : List KeyState) (d : Trace) (x : KeyState) → AreStated traces n states → n < length traces → x ≡ key_state_in (get_or traces n d) → AreStated traces (n + 1) (set states n x)
stated_more traces n states d x h within is = record {
  size = length-set states n x ∙ h.size;
  each = λ i l. elim (cases_eq i n) [
    | inl same ↦ subst (λ k. get_or (set states n x) k Absent ≡ key_state_in (get_or traces k trace.Never)) (sym same)
        (get_or-set_same states n x Absent (omega (arith, h.size)) ∙ (is ∙ ap (λ y. key_state_in y) (get_or_default traces n d trace.Never within)))
    | inr ne ↦ get_or-set_other states n i x Absent ne ∙ h.each i (below i n l ne)
  ];
}
  where
    below : (i n : ℕ) → i < n + 1 → i ≢ n → i < n
    below i n l ne = elim (cases_order i n) [ inl same ↦ absurd (ne same) | inr (inl less) ↦ less | inr (inr more) ↦ absurd (omega arith) ]

pub keys_stated : (g : Geometry) (image : Image) (traces : List Trace) (states : List KeyState) → length image ≡ row_count g → HasTraces g (marks image) (row_count g) traces
    → ((i : ℕ) → i < length traces → get_or states i Absent ≡ key_state_in (get_or traces i trace.Never)) → (key : Key) → IsKeyOf g key → get_or states (index_of g key) Absent ≡ key_state image key
unfolding key_state
keys_stated g image traces states whole h each key within =
    let size = h.size in
    each (index_of g key) (omega (arith, index_within g key within))
    ∙ (tells_state (get_or traces (index_of g key) trace.Never) (latest_below (marks image) key (row_count g)) (h.at key within)
    ∙ ap (λ n. state_by (latest_below (marks image) key n)) (sym whole))

-- a key that has a newest page
pub found_of : (image : Image) (key : Key) (row : ℕ) → newest (marks image) key ≡ Some row → key_state image key ≡ Found
unfolding key_state
found_of image key row e = by (latest_below (marks image) key (length image)) (ap (λ n. place_of (latest_below (marks image) key n)) (sym (length-marks image)) ∙ (sym (latest-newest (marks image) key) ∙ e))
  where
    by : (l : Latest) → place_of l ≡ Some row → state_by l ≡ Found
    by Never p = absurd cc
    by (Once q s) p = refl
    by (Tied a b s) p = absurd cc

pub record HasPlace (image : Image) (key : Key) : Type 0 where
  pub row : ℕ
  pub newest_is : newest (marks image) key ≡ Some row

pub place_found : (image : Image) (key : Key) → key_state image key ≡ Found → HasPlace image key
unfolding key_state
place_found image key e = by (latest_below (marks image) key (length image)) refl e
  where
    by : (l : Latest) → latest_below (marks image) key (length image) ≡ l → state_by l ≡ Found → HasPlace image key
    by Never is p = absurd cc
    by (Once q s) is p = record { row = q; newest_is = latest-newest (marks image) key ∙ ap place_of (ap (latest_below (marks image) key) (length-marks image) ∙ is) }
    by (Tied a b s) is p = absurd cc

pub formed_all : (g : Geometry) (image : Image) (formed : List Bool) → length image ≡ row_count g → HasFormed g image (row_count g) formed → (u : ℕ)
    → u < table_pages g → key_state image (Table u) ≡ Found
    → (get_or formed u false ≡ true) ↔ IsWellFormed (entries g) g.blocks u (table_body image u)
formed_all g image formed whole h u within found =
    let at = place_found image (Table u) found in
    let latest : place_of (latest_below (marks image) (Table u) (row_count g)) ≡ Some at.row = ap (λ n. place_of (latest_below (marks image) (Table u) n)) (sym (length-marks image ∙ whole)) ∙ (sym (latest-newest (marks image) (Table u)) ∙ at.newest_is) in
    subst (λ (b : List ℕ). (get_or formed u false ≡ true) ↔ IsWellFormed (entries g) g.blocks u b) (sym (table_is image u at.row at.newest_is)) (h.at u at.row within latest)
