-- Words that stand in JSON as they are.
use Rattle.std.proofs.Common.{◌≡◌, ℕ, List, [], ◌∷◌, ◌++◌, Bool, true, false, refl, sym, ap, ◌∙◌, append_assoc}
use Rattle.std.specs.Fmt.{decimal}
use Rattle.certificate.specs.declared.block_state.BlockState.{BlockState}
use Rattle.serde_json.specs.Written.{compact_text}
use Rattle.lab_dump.specs.declared.fit.Fit.{Fit}
use Rattle.lab_correct.specs.declared.found.FoundFit.{FoundFit}
use Rattle.lab_correct.specs.Coded.{found_as}
use Rattle.lab_dump.specs.declared.doubts.Doubts.{Doubts}
use Rattle.lab_dump.specs.declared.history.SectorPage.{SectorPage}
use Rattle.lab_dump.specs.declared.history.Wrote.{Wrote}
use Rattle.lab_dump.specs.declared.history.Wrote.TheVariants as wrote
use Rattle.page_layout.specs.declared.record.Kind.{Kind}
use Rattle.page_layout.specs.declared.record.Kind.TheVariants as kind
use Rattle.serde_json.specs.Data.{boolean}
use Rattle.lab_dump.specs.declared.said.SaidPage.{SaidPage}
use Rattle.lab_dump.specs.Doubts.{most_older}
use Rattle.lab_mend.specs.declared.merging.RowTally.{RowTally}
use Rattle.lab_mend.specs.declared.pairs.BitPair.{BitPair}
use Rattle.lab_commands.specs.Values.{age_data, age_until_data, block_data, corrected_data, counts_words, found_data, front_words, head_data, history_data, key_data, legible_data}
use
    Rattle.lab_commands.specs.Values.{
      mended_data,
      merged_data,
      page_data,
      pages_data,
      pair_data,
      repeated_data,
      fit_rest_words,
      said_data,
      truth_words,
      turned_data,
    }
use Rattle.std.specs.Prelude.{codes, ◌==◌, if◌then◌else◌}
use Rattle.json.specs.Print.{escape, escape_byte, quoted}
use Rattle.lab_dump.specs.declared.fit.TableSays.{TableSays}
use Rattle.lab_dump.specs.declared.fit.TableSays.TheVariants.{Agrees, Short, Silent, Differs}
use Rattle.lab_mend.specs.declared.mending.Made.{Made}
use Rattle.lab_mend.specs.declared.mending.Made.TheVariants as made
use Rattle.lab_commands.specs.declared.lines.Label.{Label}
use Rattle.lab_commands.specs.declared.lines.Label.TheVariants as label
use Rattle.lab_commands.specs.declared.lines.Sort.{Sort}
use Rattle.lab_commands.specs.declared.lines.Sort.TheVariants as sort
use Rattle.lab_commands.specs.declared.document.Report.{Report}
use Rattle.lab_commands.specs.declared.document.Report.TheVariants as report
use Rattle.lab_commands.specs.Document.{report_words}
use Rattle.lab_commands.specs.Lines.{class_words, kind_words, label_words, made_words, says_words, five_numbers_words, sort_words, wrote_words}

-- what stands between the quotes, and what follows
pub quoted_in : (w rest : List ℕ) → escape w ≡ w → quoted w ++ rest ≡ 34 ∷ (w ++ 34 ∷ rest)
quoted_in w rest plain = ap (λ t. 34 ∷ t) (append_assoc (escape w) (34 ∷ []) rest ∙ ap (λ t. t ++ 34 ∷ rest) plain)

pub plain_sort : (s : Sort) → escape (sort_words s) ≡ sort_words s
unfolding escape_byte
plain_sort sort.Data = refl
plain_sort sort.Trim = refl
plain_sort sort.Translation = refl
plain_sort sort.Table = refl
plain_sort sort.Erased = refl
plain_sort sort.Unsound = refl

pub plain_label : (l : Label) → escape (label_words l) ≡ label_words l
unfolding escape_byte
plain_label label.Sector = refl
plain_label label.Translation = refl
plain_label label.Table = refl

-- by which class it is
by : (a b d e f : Bool) → List ℕ
by a b d e f =
    if a then codes "free" else (if b then codes "data" else (if d then codes "mapping" else (
    if e then codes "closed" else (if f then codes "factory" else codes "grown"))))

plain_by : (a b d e f : Bool) → escape (by a b d e f) ≡ by a b d e f
unfolding escape_byte by
plain_by true b d e f = refl
plain_by false true d e f = refl
plain_by false false true e f = refl
plain_by false false false true f = refl
plain_by false false false false true = refl
plain_by false false false false false = refl

pub plain_class : (c : ℕ) → escape (class_words c) ≡ class_words c
unfolding by
plain_class c = plain_by (c == 0) (c == 1) (c == 2) (c == 3) (c == 4)

pub plain_says : (t : TableSays) → escape (says_words t) ≡ says_words t
unfolding escape_byte
plain_says Agrees = refl
plain_says Short = refl
plain_says Silent = refl
plain_says Differs = refl

pub plain_made : (m : Made) → escape (made_words m) ≡ made_words m
unfolding escape_byte
plain_made made.Sound = refl
plain_made made.Erased = refl

pub plain_wrote : (w : Wrote) → escape (wrote_words w) ≡ wrote_words w
unfolding escape_byte
plain_wrote wrote.Data = refl
plain_wrote wrote.Trim = refl

pub plain_report : (r : Report) → escape (report_words r) ≡ report_words r
unfolding escape_byte
plain_report report.Geometry = refl
plain_report report.Survey = refl
plain_report report.Array = refl
plain_report report.History = refl
plain_report report.Compare = refl
plain_report report.Merge = refl
plain_report report.Repair = refl
plain_report report.Correct = refl
plain_report report.Arrange = refl
plain_report report.Origin = refl

-- the numbers of a list, and what follows it
pub list_of_two : (a b rest : List ℕ) → (a ++ 44 ∷ (b ++ 93 ∷ [])) ++ rest ≡ a ++ 44 ∷ (b ++ 93 ∷ rest)
list_of_two a b rest = append_assoc a (44 ∷ (b ++ 93 ∷ [])) rest ∙ ap (λ t. a ++ 44 ∷ t) (append_assoc b (93 ∷ []) rest)

pub list_of_five : (a b d e f rest : List ℕ) → (a ++ 44 ∷ (b ++ 44 ∷ (d ++ 44 ∷ (e ++ 44 ∷ (f ++ 93 ∷ []))))) ++ rest ≡ a ++ 44 ∷ (b ++ 44 ∷ (d ++ 44 ∷ (e ++ 44 ∷ (f ++ 93 ∷ rest))))
list_of_five a b d e f rest =
    append_assoc a (44 ∷ (b ++ 44 ∷ (d ++ 44 ∷ (e ++ 44 ∷ (f ++ 93 ∷ []))))) rest
    ∙ ap (λ t. a ++ 44 ∷ t) (append_assoc b (44 ∷ (d ++ 44 ∷ (e ++ 44 ∷ (f ++ 93 ∷ [])))) rest
    ∙ ap (λ t. b ++ 44 ∷ t) (append_assoc d (44 ∷ (e ++ 44 ∷ (f ++ 93 ∷ []))) rest ∙ ap (λ t. d ++ 44 ∷ t) (list_of_two e f rest)))

-- ---- each line, piece by piece, is the text of its object

pub pages_json : (sort : Sort) (pages : ℕ) (r1 : ℕ) (w : List ℕ) → r1 ≡ pages → w ≡ sort_words sort → codes "{\"count\":" ++ (decimal r1 ++ (codes ",\"line\":\"pages\",\"sort\":\"" ++ (w ++ codes "\"}"))) ≡ compact_text (pages_data sort pages)
unfolding escape_byte
pages_json sort pages r1 w e1 ew = rw (e1, ew) (ap (λ t. codes "{\"count\":" ++ (decimal pages ++ (codes ",\"line\":\"pages\",\"sort\":" ++ t))) (sym (quoted_in (sort_words sort) (codes "}") (plain_sort sort))))

pub repeated_json : (first second : ℕ) → codes "{\"line\":\"reason\",\"reason\":\"SequenceRepeated\",\"rows\":[" ++ (decimal first ++ (codes "," ++ (decimal second ++ codes "]}"))) ≡ compact_text (repeated_data first second)
unfolding escape_byte
repeated_json first second = ap (λ t. codes "{\"line\":\"reason\",\"reason\":\"SequenceRepeated\",\"rows\":[" ++ t) (sym (list_of_two (decimal first) (decimal second) (codes "}")))

pub tied_json : (of : Label) (number : ℕ) (w : List ℕ) (r1 : ℕ) → w ≡ label_words of → r1 ≡ number → codes "{\"key\":\"" ++ (w ++ (codes "\",\"line\":\"tied\",\"number\":" ++ (decimal r1 ++ codes "}"))) ≡ compact_text (key_data (codes "tied") of number)
unfolding escape_byte
tied_json of number w r1 ew e1 = rw (ew, e1) (ap (λ t. codes "{\"key\":" ++ t) (sym (quoted_in (label_words of) (codes ",\"line\":\"tied\",\"number\":" ++ (decimal number ++ codes "}")) (plain_label of))))

pub missing_json : (of : Label) (number : ℕ) (w : List ℕ) (r1 : ℕ) → w ≡ label_words of → r1 ≡ number → codes "{\"key\":\"" ++ (w ++ (codes "\",\"line\":\"missing\",\"number\":" ++ (decimal r1 ++ codes "}"))) ≡ compact_text (key_data (codes "missing") of number)
unfolding escape_byte
missing_json of number w r1 ew e1 = rw (ew, e1) (ap (λ t. codes "{\"key\":" ++ t) (sym (quoted_in (label_words of) (codes ",\"line\":\"missing\",\"number\":" ++ (decimal number ++ codes "}")) (plain_label of))))

pub block_json : (block : ℕ) (state : BlockState) (unsound : ℕ) (r1 : ℕ) (w : List ℕ) (r2 : ℕ) (r3 : ℕ) (r4 : ℕ) (r5 : ℕ) → r1 ≡ block
    → w ≡ class_words state.class → r2 ≡ state.live → r3 ≡ state.pointer → r4 ≡ unsound → r5 ≡ state.wear
    → codes "{\"block\":" ++
    (decimal r1
    ++ (codes ",\"class\":\""
    ++ (w
    ++ (codes "\",\"line\":\"block\",\"live\":"
    ++ (decimal r2
    ++ (codes ",\"pointer\":"
    ++ (decimal r3 ++ (codes ",\"unsound\":" ++ (decimal r4 ++ (codes ",\"wear\":" ++ (decimal r5 ++ codes "}")))))))))))
    ≡ compact_text (block_data block state unsound)
unfolding escape_byte
block_json block state unsound r1 w r2 r3 r4 r5 e1 ew e2 e3 e4 e5 = rw (e1, ew, e2, e3, e4, e5)
    (ap (λ t. codes "{\"block\":" ++ (decimal block ++ (codes ",\"class\":" ++ t)))
    (sym
    (quoted_in (class_words state.class)
    (codes ",\"line\":\"block\",\"live\":"
    ++ (decimal state.live
    ++ (codes ",\"pointer\":"
    ++ (decimal state.pointer
    ++ (codes ",\"unsound\":" ++ (decimal unsound ++ (codes ",\"wear\":" ++ (decimal state.wear ++ codes "}"))))))))
    (plain_class state.class))))

-- the members of a geometry that fits, behind its first one and that of codes
fit_rest : (f : Fit)
    → codes ",\"geometry\":[" ++ (decimal f.data_bytes ++ (codes "," ++ (decimal f.spare_bytes ++ (codes "," ++ (decimal f.pages ++ (codes "," ++ (decimal f.blocks ++ (codes "," ++ (decimal f.sectors
    ++ (codes "],\"line\":\"geometry\",\"looked\":" ++ counts_words f)))))))))) ≡ fit_rest_words f
unfolding escape_byte
fit_rest f = ap
    (λ t. codes ",\"geometry\":[" ++ (decimal f.data_bytes ++ (codes "," ++ (decimal f.spare_bytes ++ (codes "," ++ (decimal f.pages ++ (codes "," ++ (decimal f.blocks ++ (codes "," ++ (decimal f.sectors
    ++ (codes "],\"line\":\"geometry\",\"looked\":" ++ (decimal f.looked ++ (codes ",\"sectors_told\":" ++ (decimal f.sectors_told ++ (codes ",\"sound\":" ++ (decimal f.sound.0 ++ (codes ",\"table\":" ++ t)))))))))))))))))
    (sym (quoted_in (says_words f.table) (codes ",\"unsound\":" ++ (decimal f.unsound ++ codes "}")) (plain_says f.table)))
    ∙ ap (λ t. codes ",\"geometry\":[" ++ t)
    (sym (list_of_five (decimal f.data_bytes) (decimal f.spare_bytes) (decimal f.pages) (decimal f.blocks) (decimal f.sectors)
    (codes ",\"line\":\"geometry\",\"looked\":" ++ (decimal f.looked ++ (codes ",\"sectors_told\":" ++ (decimal f.sectors_told ++ (codes ",\"sound\":" ++ (decimal f.sound.0
    ++ (codes ",\"table\":" ++ (quoted (says_words f.table) ++ (codes ",\"unsound\":" ++ (decimal f.unsound ++ codes "}"))))))))))))

-- in two parts
rest_flat : (f : Fit) (behind rest : List ℕ)
    → (codes ",\"geometry\":[" ++ (five_numbers_words f ++ behind)) ++ rest
    ≡ codes ",\"geometry\":[" ++ (decimal f.data_bytes ++ (codes "," ++ (decimal f.spare_bytes ++ (codes "," ++ (decimal f.pages ++ (codes "," ++ (decimal f.blocks ++ (codes "," ++ (decimal f.sectors ++ (behind ++ rest))))))))))
rest_flat f behind rest = simp append_assoc

pub rest_parts : (f : Fit) → (codes ",\"geometry\":[" ++ (five_numbers_words f ++ codes "],\"line\":\"geometry\",\"looked\":")) ++ counts_words f ≡ fit_rest_words f
rest_parts f = rest_flat f (codes "],\"line\":\"geometry\",\"looked\":") (counts_words f) ∙ fit_rest f

pub counts_pieces : (f : Fit) (r1 r2 r3 : ℕ) (w : List ℕ) → r1 ≡ f.looked → r2 ≡ f.sound.0 → w ≡ says_words f.table → r3 ≡ f.unsound
    → decimal r1 ++ (codes ",\"sectors_told\":" ++ (decimal f.sectors_told ++ (codes ",\"sound\":" ++ (decimal r2 ++ (codes ",\"table\":\"" ++ (w ++ (codes "\",\"unsound\":" ++ (decimal r3 ++ codes "}")))))))) ≡ counts_words f
counts_pieces f r1 r2 r3 w e1 e2 ew e3 = rw (e1, e2, ew, e3) refl

-- with the member of codes before it, and without
fit_by : (coded : Bool) (f : Fit) → (codes "{\"blocks_told\":" ++ (decimal f.blocks_told ++ front_words coded)) ++ fit_rest_words f ≡ compact_text (found_data (found_as coded f))
unfolding escape_byte
fit_by true f = ap (λ t. codes "{\"blocks_told\":" ++ t) (append_assoc (decimal f.blocks_told) (codes ",\"codes\":\"hamming\"") (fit_rest_words f))
fit_by false f = ap (λ t. codes "{\"blocks_told\":" ++ t) (append_assoc (decimal f.blocks_told) [] (fit_rest_words f))

pub fit_json : (found : FoundFit) (v : List ℕ) → v ≡ front_words found.coded → (codes "{\"blocks_told\":" ++ (decimal found.fit.blocks_told ++ v)) ++ fit_rest_words found.fit ≡ compact_text (found_data found)
fit_json found v ev = rw ev (fit_by found.coded found.fit)

pub mended_json : (made : Made) (row : ℕ) (bit : ℕ) (r1 : ℕ) (w : List ℕ) (r2 : ℕ) → r1 ≡ bit → w ≡ made_words made → r2 ≡ row
    → codes "{\"bit\":" ++ (decimal r1 ++ (codes ",\"line\":\"" ++ (w ++ (codes "\",\"row\":" ++ (decimal r2 ++ codes "}"))))) ≡ compact_text
    (mended_data made row bit)
unfolding escape_byte
mended_json made row bit r1 w r2 e1 ew e2 = rw (e1, ew, e2) (ap (λ t. codes "{\"bit\":" ++ (decimal bit ++ (codes ",\"line\":" ++ t))) (sym (quoted_in (made_words made) (codes ",\"row\":" ++ (decimal row ++ codes "}")) (plain_made made))))

pub pair_json : (row : ℕ) (b : BitPair) (r1 r2 r3 : ℕ) → r1 ≡ b.low → r2 ≡ b.high → r3 ≡ row
    → codes "{\"bits\":[" ++ (decimal r1 ++ (codes "," ++ (decimal r2 ++ (codes "],\"line\":\"mended\",\"row\":" ++ (decimal r3 ++ codes "}"))))) ≡ compact_text (pair_data row b)
unfolding escape_byte
pair_json row b r1 r2 r3 e1 e2 e3 = rw (e1, e2, e3) (ap (λ t. codes "{\"bits\":[" ++ t) (sym (list_of_two (decimal b.low) (decimal b.high) (codes ",\"line\":\"mended\",\"row\":" ++ (decimal row ++ codes "}")))))

pub corrected_json : (bits : ℕ) (rows : ℕ) (lost : ℕ) (r1 : ℕ) → r1 ≡ rows → codes "{\"line\":\"corrected\",\"lost\":" ++ (decimal lost ++ (codes ",\"rows\":" ++ (decimal r1 ++ (codes ",\"turned\":" ++ (decimal bits ++ codes "}"))))) ≡ compact_text (corrected_data bits rows lost)
unfolding escape_byte
corrected_json bits rows lost r1 e1 = rw (e1) (refl)

pub merged_json : (differ : ℕ) (tally : RowTally) (r1 : ℕ) (r2 : ℕ) (r3 : ℕ) (r4 : ℕ) (r5 : ℕ) → r1 ≡ tally.erased → r2 ≡ tally.majority → r3 ≡ tally.sound → r4 ≡ tally.turned → r5 ≡ tally.unsound
    → codes "{\"differ\":" ++
    (decimal differ
    ++ (codes ",\"erased\":"
    ++ (decimal r1
    ++ (codes ",\"line\":\"merged\",\"majority\":"
    ++ (decimal r2
    ++ (codes ",\"sound\":"
    ++ (decimal r3 ++ (codes ",\"turned\":" ++ (decimal r4 ++ (codes ",\"unsound\":" ++ (decimal r5 ++ codes "}")))))))))))
    ≡ compact_text (merged_data differ tally)
unfolding escape_byte
merged_json differ tally r1 r2 r3 r4 r5 e1 e2 e3 e4 e5 = rw (e1, e2, e3, e4, e5) (refl)

pub turned_json : (row turned differing r1 r2 r3 : ℕ) → r1 ≡ differing → r2 ≡ row → r3 ≡ turned
    → codes "{\"bits\":" ++ (decimal r1 ++ (codes ",\"line\":\"turned\",\"row\":" ++ (decimal r2 ++ (codes ",\"turned\":" ++ (decimal r3 ++ codes "}"))))) ≡ compact_text (turned_data (codes "turned") row turned differing)
unfolding escape_byte
turned_json row turned differing r1 r2 r3 e1 e2 e3 = rw (e1, e2, e3) (refl)

pub tied_row_json : (row turned differing r1 r2 r3 : ℕ) → r1 ≡ differing → r2 ≡ row → r3 ≡ turned
    → codes "{\"bits\":" ++ (decimal r1 ++ (codes ",\"line\":\"tied_row\",\"row\":" ++ (decimal r2 ++ (codes ",\"turned\":" ++ (decimal r3 ++ codes "}"))))) ≡ compact_text (turned_data (codes "tied_row") row turned differing)
unfolding escape_byte
tied_row_json row turned differing r1 r2 r3 e1 e2 e3 = rw (e1, e2, e3) (refl)

pub age_json : (doubts : Doubts) (m : ℕ) (r1 : ℕ) → m ≡ most_older doubts → r1 ≡ doubts.unsound → codes "{\"line\":\"age\",\"older\":" ++ (decimal m ++ (codes ",\"unsound\":" ++ (decimal r1 ++ codes "}"))) ≡ compact_text (age_data doubts)
unfolding escape_byte
age_json doubts m r1 em e1 = rw (em, e1) (refl)

pub until_json : (last : ℕ) (unsound : ℕ) (r1 : ℕ) → r1 ≡ unsound → codes "{\"line\":\"until\",\"sequence\":" ++ (decimal last ++ (codes ",\"unsound\":" ++ (decimal r1 ++ codes "}"))) ≡ compact_text (age_until_data last unsound)
unfolding escape_byte
until_json last unsound r1 e1 = rw (e1) (refl)

pub page_json : (page : SectorPage) (block : ℕ) (r1 : ℕ) (w : List ℕ) (r2 : ℕ) (r3 : ℕ) → r1 ≡ block → w ≡ wrote_words page.wrote → r2 ≡ page.row
    → r3 ≡ page.version
    → codes "{\"block\":" ++
    (decimal r1
    ++ (codes ",\"kind\":\""
    ++ (w
    ++ (codes "\",\"line\":\"page\",\"row\":"
    ++ (decimal r2
    ++ (codes ",\"sequence\":" ++ (decimal page.sequence.0 ++ (codes ",\"version\":" ++ (decimal r3 ++ codes "}"))))))))) ≡
    compact_text (page_data page block)
unfolding escape_byte
page_json page block r1 w r2 r3 e1 ew e2 e3 = rw (e1, ew, e2, e3)
    (ap (λ t. codes "{\"block\":" ++ (decimal block ++ (codes ",\"kind\":" ++ t)))
    (sym
    (quoted_in (wrote_words page.wrote)
    (codes ",\"line\":\"page\",\"row\":"
    ++ (decimal page.row
    ++ (codes ",\"sequence\":" ++ (decimal page.sequence.0 ++ (codes ",\"version\":" ++ (decimal page.version ++ codes "}"))))))
    (plain_wrote page.wrote))))

pub history_json : (pages : ℕ) (unsound : ℕ) (r1 : ℕ) → r1 ≡ unsound → codes "{\"line\":\"history\",\"pages\":" ++ (decimal pages ++ (codes ",\"unsound\":" ++ (decimal r1 ++ codes "}"))) ≡ compact_text (history_data pages unsound)
unfolding escape_byte
history_json pages unsound r1 e1 = rw (e1) (refl)

pub plain_kind : (k : Kind) → escape (kind_words k) ≡ kind_words k
unfolding escape_byte
plain_kind kind.Sector = refl
plain_kind kind.Trim = refl
plain_kind kind.Translation = refl
plain_kind kind.Table = refl

pub truth_is : (b : Bool) → truth_words b ≡ compact_text (boolean b)
truth_is true = refl
truth_is false = refl

pub said_json : (page : SaidPage) (k t : List ℕ) (r1 r2 : ℕ) → k ≡ kind_words page.says.kind → t ≡ truth_words page.newer → r1 ≡ page.says.number → r2 ≡ page.row
    → codes "{\"kind\":\"" ++ (k ++ (codes "\",\"line\":\"says\",\"newer\":" ++ (t ++ (codes ",\"number\":" ++ (decimal r1 ++ (codes ",\"row\":" ++ (decimal r2 ++ (codes ",\"sequence\":" ++ (decimal page.says.sequence ++ codes "}"))))))))) ≡ compact_text (said_data page)
unfolding escape_byte
said_json page k t r1 r2 ek et e1 e2 = rw (ek, et, e1, e2, truth_is page.newer)
    (ap (λ u. codes "{\"kind\":" ++ u)
    (sym
    (quoted_in (kind_words page.says.kind)
    (codes ",\"line\":\"says\",\"newer\":"
    ++ (compact_text (boolean page.newer)
    ++ (codes ",\"number\":"
    ++ (decimal page.says.number
    ++ (codes ",\"row\":" ++ (decimal page.row ++ (codes ",\"sequence\":" ++ (decimal page.says.sequence ++ codes "}"))))))))
    (plain_kind page.says.kind))))

pub legible_json : (legible others r1 : ℕ) → r1 ≡ legible → codes "{\"legible\":" ++ (decimal r1 ++ (codes ",\"line\":\"legible\",\"others\":" ++ (decimal others ++ codes "}"))) ≡ compact_text (legible_data legible others)
unfolding escape_byte
legible_json legible others r1 e1 = rw (e1) (refl)

pub head_json : (r : Report) (w : List ℕ) → w ≡ report_words r → codes "[{\"command\":\"" ++ (w ++ codes "\",\"line\":\"command\",\"program\":\"nandlab\"}") ≡ codes "[" ++ compact_text (head_data (report_words r))
unfolding escape_byte
head_json r w ew = rw (ew) (ap (λ t. codes "[{\"command\":" ++ t) (sym (quoted_in (report_words r) (codes ",\"line\":\"command\",\"program\":\"nandlab\"}") (plain_report r))))
