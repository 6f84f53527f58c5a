-- What a report says of files, one after another.
use Rattle.std.proofs.Common.{◌≡◌, ◌⊎◌, inl, inr, ℕ, zero, suc, ◌+◌, ◌<◌, List, [], ◌∷◌, ◌++◌, length, map, take, get_or, Bool, true, false, below_more, Option, refl, sym, ap, subst, ◌∙◌, arith}
use Rattle.std.specs.Prelude.{Result, Ok, Err, IfErr}
use Rattle.std.specs.Result.{IsErrAnd}
use Rattle.std.specs.Borrow.{Bor}
use Rattle.std.proofs.lemmas.List.{get_or-map, length-map, map-append, take-map, take_more}
use Rattle.program_words.specs.Met.{texts}
use Rattle.lab_commands.specs.declared.files.LabFileFault.TheVariants as file
use Rattle.lab_commands.specs.declared.files.Standing.TheVariants as standing
use Rattle.lab_commands.specs.declared.text.LabFault.{LabFault}
use Rattle.lab_commands.specs.declared.text.LabFault.TheVariants as lab
use Rattle.lab_commands.specs.Files.{AnswersNoMore, Store, StoreAnswers}
use Rattle.lab_commands.proofs.UndoneLemmas.{opened_before}
use Rattle.lab_report.specs.declared.note.Noted.{Noted}
use Rattle.lab_report.specs.Note.{Note, noted_of}
use Rattle.lab_custody.specs.declared.fault.CustodyFault.{CustodyFault}
use Rattle.lab_custody.specs.declared.fault.CustodyFault.TheVariants as fault
use Rattle.lab_custody.specs.Reported.{AreNoted, AreOtherFilesBelow, HasAskingFailed, IsFileNoted, IsSomeUnnoted, IsUnnoted, IsReportUnstored, MayNotReport}
use Rattle.lab_custody.proofs.CheckLemmas.{unread_before}

-- a fault that a `?` hands on
pub handed_on : {T : Type 0} (P : CustodyFault → Type 0) (r : Result T CustodyFault) (told : CustodyFault) → IsErrAnd r (λ e. e ≡ told) → P told → IfErr r P
handed_on P (Ok done) told is h = tt
handed_on P (Err e) told is h = subst P (sym is) h

noted_before : (a b : StoreAnswers) (kept : Option Store) (path : List ℕ) (note : Note) → AnswersNoMore a b → IsFileNoted b kept path note → IsFileNoted a kept path note
noted_before a b kept path note h k = record {
  name_is = k.name_is;
  known = k.known;
  opened = opened_before a b path k.known h k.opened;
  as_put = k.as_put;
  content = k.content;
}

are_noted_more : (a : StoreAnswers) (kept : Option Store) (paths : List (List ℕ)) (notes : List Note) (path : List ℕ) (note : Note) → AreNoted a kept paths notes → IsFileNoted a kept path note → AreNoted a kept (paths ++ path ∷ []) (notes ++ note ∷ [])
are_noted_more a kept [] [] path note are is = (is, tt)
are_noted_more a kept [] (n ∷ ns) path note are is = absurd are
are_noted_more a kept (p ∷ ps) [] path note are is = absurd are
are_noted_more a kept (p ∷ ps) (n ∷ ns) path note are is = (are.0, are_noted_more a kept ps ns path note are.1 is)

-- one more file
pub one_noted : (a b : StoreAnswers) (kept later : Option Store) (paths : List (Bor (List ℕ))) (i : ℕ) (d : Bor (List ℕ)) (notes longer : List Noted) (note : Noted) → i < length paths
    → AnswersNoMore a b → later ≡ kept → AreNoted a kept (texts (take i paths)) (map noted_of notes) → IsFileNoted b later (get_or paths i d).now (noted_of note) → longer ≡ notes ++ note ∷ []
    → AreNoted a kept (texts (take (i + 1) paths)) (map noted_of longer)
one_noted a b kept later paths i d notes longer note within h same are is pushed =
    let at : texts (take (i + 1) paths) ≡ texts (take i paths) ++ (get_or paths i d).now ∷ [] =
    ap texts (take_more paths i d within) ∙ map-append (λ (w : Bor (List ℕ)). w.now) (take i paths) (get_or paths i d ∷ []) in
    let noted : map noted_of longer ≡ map noted_of notes ++ noted_of note ∷ [] = ap (map noted_of) pushed ∙ map-append noted_of notes (note ∷ []) in
    let here : IsFileNoted a kept (get_or paths i d).now (noted_of note) =
    noted_before a b kept (get_or paths i d).now (noted_of note) h (subst (λ k. IsFileNoted b k (get_or paths i d).now (noted_of note)) same is) in
    subst (λ ps. AreNoted a kept ps (map noted_of longer)) (sym at) (subst (λ ns. AreNoted a kept (texts (take i paths) ++ (get_or paths i d).now ∷ []) ns) (sym noted)
    (are_noted_more a kept (texts (take i paths)) (map noted_of notes) (get_or paths i d).now (noted_of note) are here))

unnoted_before : (a b : StoreAnswers) (path : List ℕ) (told : CustodyFault) → AnswersNoMore a b → IsUnnoted b path told → IsUnnoted a path told
unnoted_before a b path (fault.Lab (lab.Read word)) h k = (k.0, unread_before a b path h k.1)
unnoted_before a b path (fault.Lab lab.OutOfMemory) h k = h.fails_same path file.OutOfMemory k
unnoted_before a b path _ h k = absurd k

-- the path in a place
path_in : (paths : List (Bor (List ℕ))) (i : ℕ) (d : Bor (List ℕ)) → i < length paths → get_or (texts paths) i [] ≡ (get_or paths i d).now
path_in [] i d within = absurd (omega arith)
path_in (p ∷ ps) zero d within = refl
path_in (p ∷ ps) (suc i) d within = path_in ps i d (omega arith)

-- the first one that is not noted
pub some_unnoted : (a b : StoreAnswers) (kept : Option Store) (paths : List (Bor (List ℕ))) (i : ℕ) (d : Bor (List ℕ)) (notes : List Note) (told : CustodyFault) → i < length paths → AnswersNoMore a b → AreNoted a kept (texts (take i paths)) notes
    → IsUnnoted b (get_or paths i d).now told → IsSomeUnnoted a kept (texts paths) told
some_unnoted a b kept paths i d notes told within h before k =
    let size : length (texts paths) ≡ length paths = length-map paths (λ (w : Bor (List ℕ)). w.now) in
    let inside : i < length (texts paths) = omega arith in (
      i,
      inside,
      (notes, subst (λ ps. AreNoted a kept ps notes) (sym (take-map (λ (w : Bor (List ℕ)). w.now) i paths)) before),
      subst (λ path. IsUnnoted a path told) (sym (path_in paths i d within)) (unnoted_before a b (get_or paths i d).now told h k),
    )

pub unstored_before : (a b : StoreAnswers) (path : List ℕ) (told : CustodyFault) → AnswersNoMore a b → IsReportUnstored b path told → IsReportUnstored a path told
unstored_before a b path fault.ReportExists h k = h.taken_same path k
unstored_before a b path (fault.Lab (lab.Write word)) h k = (k.0, h.fails_same path file.Failed k.1)
unstored_before a b path (fault.Lab lab.OutOfMemory) h k = tt
unstored_before a b path _ h k = absurd k

-- ---- whether it may be written

-- a file that is to be written could not be asked about
unasked_written : (a : StoreAnswers) (path : List ℕ) (wrote : List (List ℕ)) (i : ℕ) (told : CustodyFault) → i < length wrote → a.says path standing.Nothing → AreOtherFilesBelow a path wrote i → HasAskingFailed a (get_or wrote i []) told → MayNotReport a path wrote told
unasked_written a path wrote i (fault.Lab (lab.Write word)) within free before k = inr (free, (i, within, before, k))
unasked_written a path wrote i (fault.Lab lab.OutOfMemory) within free before k = inr (free, (i, within, before, k))
unasked_written a path wrote i _ within free before k = absurd k

pub unasked_in : {F : Type 0} (answers : F → StoreAnswers) (old now : F) (paths : List (Bor (List ℕ))) (i : ℕ) (d : Bor (List ℕ)) (file : List ℕ) (told : CustodyFault) → now ≡ old → i < length paths → d ≡ get_or paths i d
    → (answers old).says file standing.Nothing → AreOtherFilesBelow (answers old) file (texts paths) i → HasAskingFailed (answers now) d.now told → MayNotReport (answers old) file (texts paths) told
unasked_in answers old now paths i d file told same within at free before k =
    let size : length (texts paths) ≡ length paths = length-map paths (λ (w : Bor (List ℕ)). w.now) in
    let inside : i < length (texts paths) = omega arith in
    let there : get_or (texts paths) i [] ≡ d.now = path_in paths i d within ∙ ap (λ (w : Bor (List ℕ)). w.now) (sym at) in
    unasked_written (answers old) file (texts paths) i told inside free before
    (subst (λ path. HasAskingFailed (answers old) path told) (sym there) (subst (λ f. HasAskingFailed (answers f) d.now told) same k))

-- one is the file of the report
pub written_at : {F : Type 0} (answers : F → StoreAnswers) (old now : F) (paths : List (Bor (List ℕ))) (i : ℕ) (d : Bor (List ℕ)) (file : List ℕ) (b : Bool) → now ≡ old → i < length paths → d ≡ get_or paths i d → b ≡ true
    → (answers now).says_same d.now file b → AreOtherFilesBelow (answers old) file (texts paths) i
    → (k : ℕ) × (k < length (texts paths)) × AreOtherFilesBelow (answers old) file (texts paths) k × (answers old).says_same (get_or (texts paths) k []) file true
written_at answers old now paths i d file b same within at is said before =
    let size : length (texts paths) ≡ length paths = length-map paths (λ (w : Bor (List ℕ)). w.now) in
    let inside : i < length (texts paths) = omega arith in
    let there : get_or (texts paths) i [] ≡ d.now = path_in paths i d within ∙ ap (λ (w : Bor (List ℕ)). w.now) (sym at) in
    let here : (answers old).says_same d.now file true = subst (λ v. (answers old).says_same d.now file v) is (subst (λ f. (answers f).says_same d.now file b) same said) in
    (i, inside, before, subst (λ path. (answers old).says_same path file true) (sym there) here)

-- one more file that is not that of the report
pub others_more : {F : Type 0} (answers : F → StoreAnswers) (old now : F) (paths : List (Bor (List ℕ))) (i : ℕ) (d : Bor (List ℕ)) (file : List ℕ) (b : Bool) → now ≡ old → i < length paths → d ≡ get_or paths i d → b ≡ false
    → (answers now).says_same d.now file b → ((k : ℕ) → k < i → (answers old).says_same (get_or (texts paths) k []) file false) → (k : ℕ) → k < i + 1 → (answers old).says_same (get_or (texts paths) k []) file false
others_more answers old now paths i d file b same within at is said before =
    let there : get_or (texts paths) i [] ≡ d.now = path_in paths i d within ∙ ap (λ (w : Bor (List ℕ)). w.now) (sym at) in
    let here : (answers old).says_same d.now file false = subst (λ v. (answers old).says_same d.now file v) is (subst (λ f. (answers f).says_same d.now file b) same said) in
    below_more (λ k. (answers old).says_same (get_or (texts paths) k []) file false) i before (subst (λ path. (answers old).says_same path file false) (sym there) here)
