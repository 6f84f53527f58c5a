-- What is said of files, one after another.
use Rattle.std.proofs.Common.{◌≡◌, inl, inr, ℕ, ◌+◌, ◌<◌, List, [], ◌∷◌, ◌++◌, length, map, take, get_or, ◌^◌, Option, Some, None, IfSome, refl, sym, ap, subst, ◌∙◌, append_assoc, append-nil}
use Rattle.std.specs.Prelude.{All}
use Rattle.std.proofs.lemmas.List.{map-append, take_more}
use Rattle.std.proofs.lemmas.List.Elements.{All-append, All-cons, All-nil, All-weaker}
use Rattle.lab_commands.specs.declared.files.Standing.TheVariants as standing
use Rattle.lab_commands.specs.declared.document.ReportForm.{ReportForm}
use Rattle.lab_commands.specs.Files.{AnswersNoMore, IsFrontOfFile, StoreAnswers}
use Rattle.lab_commands.proofs.UndoneLemmas.{opened_before}
use Rattle.lab_report.specs.declared.note.FileNote.{FileNote}
use Rattle.lab_report.specs.Note.{Note, Told, note_of}
use Rattle.lab_report.specs.Reading.{IsNoReport}
use Rattle.lab_custody.specs.Lines.{verify_text}
use Rattle.lab_custody.specs.declared.checks.Checked.{Checked}
use Rattle.lab_custody.specs.declared.checks.Verdict.{Verdict}
use Rattle.lab_custody.specs.declared.checks.Verdict.TheVariants as verdict
use Rattle.lab_custody.specs.declared.words.VerifyWords.{VerifyWords}
use Rattle.lab_commands.specs.Compare.{looked_at}
use Rattle.lab_custody.specs.Verified.{AreAllChecked, HasVerified, IsReportAt, OpensNone}
use Rattle.lab_custody.specs.Verify.{AreChecked, IsChecked, IsNotReadWhole, IsVerdict, ReadsNot, noted_in}

not_read_before : (a b : StoreAnswers) (path : List ℕ) → AnswersNoMore a b → ReadsNot b path → ReadsNot a path
not_read_before a b path h k = record {
  known = k.known;
  opened = opened_before a b path k.known h k.opened;
  cut = elim k.cut [ inl failed ↦ inl (h.reads_same failed) | inr long ↦ inr long ];
}

pub unread_before : (a b : StoreAnswers) (path : List ℕ) → AnswersNoMore a b → IsNotReadWhole b path → IsNotReadWhole a path
unread_before a b path h (inl (fault, fails)) = inl (fault, h.fails_same path fault fails)
unread_before a b path h (inr (inl says)) = inr (inl (h.says_same path standing.Other says))
unread_before a b path h (inr (inr not)) = inr (inr (not_read_before a b path h not))

-- what is said of a file later is so before
pub verdict_before : (a b : StoreAnswers) (note : Note) (v : Verdict) → AnswersNoMore a b → IsVerdict b note v → IsVerdict a note v
verdict_before a b note verdict.Same h k = record { known = k.known; opened = opened_before a b note.name k.known h k.opened; same = k.same }
verdict_before a b note verdict.Differs h k = record { known = k.known; opened = opened_before a b note.name k.known h k.opened; other = k.other }
verdict_before a b note verdict.Missing h k = h.says_same note.name standing.Nothing k
verdict_before a b note verdict.Unread h k = unread_before a b note.name h k

pub none_checked : (a : StoreAnswers) (before : List Checked) → AreChecked a [] before before
none_checked a before = record { more = []; longer = sym (append-nil before); each = All-nil (IsChecked a); noted = refl }

-- one more
pub one_checked : (a b : StoreAnswers) (notes : List FileNote) (i : ℕ) (note : FileNote) (before after longer : List Checked) (check : Checked) → i < length notes → note ≡ get_or notes i note
    → AnswersNoMore a b → AreChecked a (map note_of (take i notes)) before after → noted_in check ≡ note_of note → IsVerdict b (noted_in check) check.verdict → longer ≡ after ++ check ∷ []
    → AreChecked a (map note_of (take (i + 1) notes)) before longer
one_checked a b notes i note before after longer check within at h k is said pushed = record {
  more = k.more ++ check ∷ [];
  longer = pushed ∙ (ap (λ l. l ++ check ∷ []) k.longer ∙ append_assoc before k.more (check ∷ []));
  each = All-append (IsChecked a) k.more (check ∷ []) k.each (All-cons (IsChecked a) check [] (verdict_before a b (noted_in check) check.verdict h said) (All-nil (IsChecked a)));
  noted =
      map-append noted_in k.more (check ∷ []) ∙ (ap (λ l. l ++ noted_in check ∷ []) k.noted ∙ (ap (λ n. map note_of (take i notes) ++ n ∷ []) (is ∙ ap note_of at)
      ∙ sym (ap (map note_of) (take_more notes i note within) ∙ map-append note_of (take i notes) (get_or notes i note ∷ []))));
}

-- those that were read, and those that were written
pub all_checked : (a b : StoreAnswers) (told : Told) (none between checks : List Checked) → none ≡ [] → AnswersNoMore a b → AreChecked a told.read none between → AreChecked b told.wrote between checks → AreAllChecked a told checks
all_checked a b told none between checks empty h first last =
    let front : between ≡ first.more = first.longer ∙ ap (λ l. l ++ first.more) empty in
    let all : checks ≡ first.more ++ last.more = last.longer ∙ ap (λ l. l ++ last.more) front in
    record {
      each = subst (All (IsChecked a)) (sym all) (All-append (IsChecked a) first.more last.more first.each (All-weaker (IsChecked b) (IsChecked a) (λ check k. verdict_before a b (noted_in check) check.verdict h k) last.more last.each));
      noted = ap (map noted_in) all ∙ (map-append noted_in first.more last.more ∙ (ap (λ l. l ++ map noted_in last.more) first.noted ∙ ap (λ l. told.read ++ l) last.noted));
    }

-- what is said of all files later is so before
pub all_before : (a b : StoreAnswers) (told : Told) (checks : List Checked) → AnswersNoMore a b → AreAllChecked b told checks → AreAllChecked a told checks
all_before a b told checks h k = record {
  each = All-weaker (IsChecked b) (IsChecked a) (λ check s. verdict_before a b (noted_in check) check.verdict h s) checks k.each;
  noted = k.noted;
}

-- the files of a report that was read before they were
pub has_verified : (a b : StoreAnswers) (words : VerifyWords) (told : Told) (checks : List Checked) → IsReportAt a words.report.now told → AnswersNoMore a b → AreAllChecked b told checks → HasVerified a words checks
has_verified a b words told checks is h k = record { report = told; report_is = is; checked = all_before a b told checks h k }

-- a file that was looked at is no report
pub opens_none : (a : StoreAnswers) (path bytes given : List ℕ) → IsFrontOfFile a path (2 ^ 26) bytes → given ≡ bytes → IsNoReport given → OpensNone a path
opens_none a path bytes given loaded same not = record { known = loaded.known; opened = loaded.opened; none = of_known loaded.known loaded.taken }
  where
    of_known : (known : Option (List ℕ)) → IfSome known (λ all. bytes ≡ take (2 ^ 26) all) → IfSome known (λ all. IsNoReport (looked_at all))
    of_known None is = tt
    of_known (Some all) is = subst IsNoReport (same ∙ is) not

-- what is due, by the form and the files
pub due_is : (form other : ReportForm) (checks others : List Checked) → form ≡ other → checks ≡ others → verify_text form checks ≡ verify_text other others
due_is form other checks others same are = ap (λ f. verify_text f checks) same ∙ ap (verify_text other) are
