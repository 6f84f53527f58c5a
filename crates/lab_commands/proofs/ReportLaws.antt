-- What the texts of the reports come to.
use Rattle.std.proofs.Common.{◌≡◌, ◌↔◌, ℕ, zero, suc, ◌+◌, ◌*◌, ◌/◌, ◌<◌, ◌≤◌, Bool, true, false, List, [], ◌∷◌, ◌++◌, length, take, get_or, Option, Some, None, refl, sym, ap, subst, ◌∙◌, arith}
use Rattle.std.specs.Prelude.{◌==◌, if◌then◌else◌, codes, count_by}
use Rattle.std.specs.Fmt.{decimal}
use Rattle.std.proofs.lemmas.Bool.{ne_eqb}
use Rattle.std.proofs.lemmas.Nat.{div-mul-add}
use Rattle.page_layout.specs.declared.geometry.Geometry.{Geometry}
use Rattle.page_layout.specs.declared.record.Key.TheVariants.{Sector, Translation, Table}
use Rattle.page_layout.specs.Geometry.{table_pages, translation_pages}
use Rattle.page_layout.specs.Page.{Image}
use Rattle.lab_dump.specs.declared.counts.PageCounts.{PageCounts}
use Rattle.lab_dump.specs.declared.doubts.Doubts.{Doubts}
use Rattle.lab_dump.specs.declared.held.KeyState.{KeyState}
use Rattle.lab_dump.specs.declared.held.KeyState.TheVariants as state
use Rattle.lab_dump.specs.declared.survey.DieSurvey.{DieSurvey}
use Rattle.lab_dump.specs.Count.{page_counts_of}
use Rattle.lab_dump.specs.Doubts.{most_older}
use Rattle.lab_dump.specs.Keys.{key_state}
use Rattle.lab_dump.specs.Surveyed.{HasNoReason, IsSurveyed}
use Rattle.lab_commands.specs.declared.document.ReportForm.{ReportForm}
use Rattle.lab_commands.specs.declared.lines.Label.TheVariants as label
use Rattle.lab_commands.specs.declared.lines.Line.{Line}
use Rattle.lab_commands.specs.declared.lines.Line.TheVariants as line
use Rattle.lab_commands.specs.declared.lines.Sort.TheVariants as sort
use Rattle.lab_commands.specs.declared.text.LabFault.{LabFault}
use Rattle.lab_commands.specs.declared.text.LabFault.TheVariants as fault
use Rattle.lab_commands.specs.Document.{if_text, text_below}
use Rattle.lab_commands.specs.Lines.{age_words, claim_words, key_line, last_line, moved_words, outside_line, page_line, repeated_line, table_line, whole_words}
use Rattle.lab_commands.specs.Reports.{count_lines, first_table, key_line_at, keys_text, table_at}
use Rattle.lab_commands.specs.Laws.{ClaimLaw, IsStatusOf, PageBlockLaw, ReasonsToldLaw, StatusLaw, SurveyedCountsLaw, SurveyedKeysLaw, TellsNoReason}

-- ---- the keys of a survey

-- lines that are the same below a number make the same text
text_same : (form : ReportForm) (f h : ℕ → Option Line) (n : ℕ) → ((i : ℕ) → i < n → f i ≡ h i) → text_below form f n ≡ text_below form h n
unfolding text_below
text_same form f h zero same = refl
text_same form f h (suc n) same =
    ap (λ t. t ++ if_text form (f n)) (text_same form f h n (λ i l. same i (let l = l in omega arith)))
    ∙ ap (λ l. text_below form h n ++ if_text form l) (same n (omega arith))

four_same : (a b c d x y z w : List ℕ) → a ≡ x → b ≡ y → c ≡ z → d ≡ w → a ++ (b ++ (c ++ d)) ≡ x ++ (y ++ (z ++ w))
four_same a b c d x y z w e f h k =
    ap (λ t. t ++ (b ++ (c ++ d))) e ∙ (ap (λ t. x ++ (t ++ (c ++ d))) f ∙ (ap (λ t. x ++ (y ++ (t ++ d))) h ∙ ap (λ t. x ++ (y ++ (z ++ t))) k))

pub keys_law : SurveyedKeysLaw
unfolding keys_text
keys_law form g image s is =
    let states = s.keys.items in
    let formed = s.formed.items in
    let at : (u : ℕ) → u < table_pages g → get_or states (first_table g + u) state.Absent ≡ key_state image (Table u) =
    λ u l. ap (λ (k : ℕ). get_or states k state.Absent) (let same : first_table g + u ≡ g.sectors + (translation_pages g + u) = omega arith in same) ∙ is.keys (Table u) l in
    let tables : text_below form (table_at states (first_table g) formed) (table_pages g) ≡ text_below form (λ u. table_line u (key_state image (Table u)) (get_or formed u false)) (table_pages g) =
    text_same form _ _ (table_pages g) (λ u l. ap (λ k. table_line u k (get_or formed u false)) (at u l)) in
    let sectors : text_below form (key_line_at label.Sector states 0) g.sectors ≡ text_below form (λ n. key_line label.Sector n (key_state image (Sector n))) g.sectors =
    text_same form _ _ g.sectors (λ n l. ap (key_line label.Sector n) (ap (λ (k : ℕ). get_or states k state.Absent) (let same : 0 + n ≡ n = omega arith in same) ∙ is.keys (Sector n) l)) in
    let translations : text_below form (key_line_at label.Translation states g.sectors) (translation_pages g) ≡ text_below form (λ t. key_line label.Translation t (key_state image (Translation t))) (translation_pages g) =
    text_same form _ _ (translation_pages g) (λ t l. ap (key_line label.Translation t) (is.keys (Translation t) l)) in
    let last : text_below form (key_line_at label.Table states (first_table g)) (table_pages g) ≡ text_below form (λ u. key_line label.Table u (key_state image (Table u))) (table_pages g) =
    text_same form _ _ (table_pages g) (λ u l. ap (key_line label.Table u) (at u l)) in
    four_same _ _ _ _ _ _ _ _ tables sectors translations last

-- ---- its counts

pub counts_law : SurveyedCountsLaw
unfolding page_counts_of
counts_law g image s is =
    ap (λ (c : PageCounts). Some (line.Pages sort.Data c.sectors) ∷ Some (line.Pages sort.Trim c.trims) ∷ Some (line.Pages sort.Translation c.translations)
    ∷ Some (line.Pages sort.Table c.tables) ∷ Some (line.Pages sort.Erased c.erased) ∷ Some (line.Pages sort.Unsound c.unsound) ∷ []) is.counts

-- ---- its reasons

outside_none : (n : ℕ) → (n ≡ 0) ↔ (outside_line n ≡ None)
outside_none zero = (λ e. refl, λ e. refl)
outside_none (suc n) = (λ e. cc, λ e. cc)

last_none : (n : ℕ) → (n ≡ 0) ↔ (last_line n ≡ None)
last_none zero = (λ e. refl, λ e. refl)
last_none (suc n) = (λ e. cc, λ e. cc)

repeated_none : (o : Option (ℕ × ℕ)) → (o ≡ None) ↔ (repeated_line o ≡ None)
repeated_none None = (λ e. refl, λ e. refl)
repeated_none (Some rows) = (λ e. cc, λ e. cc)

table_none : (u : ℕ) (k : KeyState) (formed : Bool) → k ≡ state.Found → formed ≡ true → table_line u k formed ≡ None
table_none u state.Found true found well = refl
table_none u state.Found false found well = cc
table_none u state.Absent formed found well = cc
table_none u state.Tied formed found well = cc

none_found : (u : ℕ) (k : KeyState) (formed : Bool) → table_line u k formed ≡ None → (k ≡ state.Found) × (formed ≡ true)
none_found u state.Found true none = (refl, refl)
none_found u state.Found false none = cc
none_found u state.Absent formed none = cc
none_found u state.Tied formed none = cc

pub reasons_law : ReasonsToldLaw
reasons_law g s =
    let place : (u : ℕ) → g.sectors + (translation_pages g + u) ≡ first_table g + u = λ u. omega arith in
    let state_of = λ (k : ℕ). get_or s.keys.items k state.Absent in (
      λ none. record {
        outside = (outside_none s.counts.outside).0 none.outside;
        repeated = (repeated_none s.repeated).0 none.repeated;
        last = (last_none s.counts.last).0 none.last;
        tables = λ u l. table_none u (state_of (first_table g + u)) (get_or s.formed.items u false) (ap state_of (sym (place u)) ∙ none.tables u l) (none.formed u l);
      },
      λ told. record {
        outside = (outside_none s.counts.outside).1 told.outside;
        repeated = (repeated_none s.repeated).1 told.repeated;
        last = (last_none s.counts.last).1 told.last;
        tables = λ u l. ap state_of (place u) ∙ (none_found u (state_of (first_table g + u)) (get_or s.formed.items u false) (told.tables u l)).0;
        formed = λ u l. (none_found u (state_of (first_table g + u)) (get_or s.formed.items u false) (told.tables u l)).1;
      },
    )

-- ---- what a dump leaves open

not_zero : (n : ℕ) → 0 < n → (n == 0) ≡ false
not_zero n some = ne_eqb n 0 (λ e. omega arith)

pub claim_law : ClaimLaw
claim_law = record {
  whole = λ d none past moved.
      let unsound : d.unsound ≡ 0 = (let e : d.unsound + d.holes ≡ 0 = none in omega arith) in
      let holes : d.holes ≡ 0 = (let e : d.unsound + d.holes ≡ 0 = none in omega arith) in
      rw (unsound, holes, past, moved) refl;
  shown = λ d none past.
      ap (λ (n : ℕ). if n == 0 then whole_words d.outside else (codes ": at most " ++ (decimal n ++ codes " sectors may be older than the last write"))) none
      ∙ ap (λ (b : Bool). if b then codes ": the array is that of every page that was programmed" else codes ": of these sectors the array is that of every page that was programmed") (not_zero d.outside past);
  older = λ d some. ap (λ (b : Bool). if b then whole_words d.outside else (codes ": at most " ++ (decimal (most_older d) ++ codes " sectors may be older than the last write"))) (not_zero (most_older d) some);
  moved = λ n some. ap (λ (b : Bool). if b then [] else codes ", nor a newest one in a rewritten block") (not_zero n some);
}

-- ---- the others

pub block_law : PageBlockLaw
block_law g page block within l at = ap (line.Page page) (ap (λ k. k / g.pages) at ∙ div-mul-add block g.pages within l)

pub status_law : StatusLaw
status_law told = of told
  where
    of : (told : LabFault) → IsStatusOf told (Rattle.lab_commands.specs.Text.lab_exit_status told)
    of fault.NoSuchCommand = record { some = omega arith; most = omega arith; word = refl }
    of (fault.BadNumber word) = record { some = omega arith; most = omega arith; word = refl }
    of (fault.Geometry broken) = record { some = omega arith; most = omega arith; word = refl }
    of (fault.NoneFits None) = record { some = omega arith; most = omega arith; word = refl }
    of (fault.NoneFits (Some nearest)) = record { some = omega arith; most = omega arith; word = refl }
    of fault.RowRange = record { some = omega arith; most = omega arith; word = refl }
    of fault.BitRange = record { some = omega arith; most = omega arith; word = refl }
    of fault.PageSize = record { some = omega arith; most = omega arith; word = refl }
    of fault.SectorRange = record { some = omega arith; most = omega arith; word = refl }
    of fault.IsDump = record { some = omega arith; most = omega arith; word = refl }
    of fault.Exists = record { some = omega arith; most = omega arith; word = refl }
    of fault.NoFile = record { some = omega arith; most = omega arith; word = refl }
    of fault.MapIsOut = record { some = omega arith; most = omega arith; word = refl }
    of fault.MapIsDump = record { some = omega arith; most = omega arith; word = refl }
    of fault.MapExists = record { some = omega arith; most = omega arith; word = refl }
    of fault.MapNoFile = record { some = omega arith; most = omega arith; word = refl }
    of fault.WrongLength = record { some = omega arith; most = omega arith; word = refl }
    of (fault.DumpLength path) = record { some = omega arith; most = omega arith; word = refl }
    of (fault.ReadingLength path) = record { some = omega arith; most = omega arith; word = refl }
    of fault.OutOfMemory = record { some = omega arith; most = omega arith; word = refl }
    of (fault.Certificate broken) = record { some = omega arith; most = omega arith; word = refl }
    of fault.GeometryDiffers = record { some = omega arith; most = omega arith; word = refl }
    of (fault.BadArrangement word) = record { some = omega arith; most = omega arith; word = refl }
    of (fault.Unfit broken) = record { some = omega arith; most = omega arith; word = refl }
    of (fault.ArrangedLength wanted found) = record { some = omega arith; most = omega arith; word = refl }
    of (fault.Read path) = record { some = omega arith; most = omega arith; word = refl }
    of (fault.Write path) = record { some = omega arith; most = omega arith; word = refl }
