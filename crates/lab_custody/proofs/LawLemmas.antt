-- The laws of what is said of files.
use Rattle.std.proofs.Common.{◌≡◌, ◌≢◌, ◌∙◌, ◌+◌, sym, ℕ, List, [], ◌∷◌, Some, refl, arith}
use Rattle.std.specs.Prelude.{All, cond}
use Rattle.std.proofs.lemmas.List.Elements.{All-cons, All-head, All-nil, All-tail}
use Rattle.std.proofs.lemmas.List.Sums.{sum_by-cons}
use Rattle.lab_commands.specs.Files.{KeptFile}
use Rattle.lab_custody.specs.declared.checks.Checked.{Checked}
use Rattle.lab_custody.specs.declared.checks.Verdict.{Verdict}
use Rattle.lab_custody.specs.declared.checks.Verdict.TheVariants as verdict
use Rattle.lab_custody.specs.Laws.{NoneChanged, PutReadsBack}
use Rattle.lab_custody.specs.Verify.{changed_count, changes}

abbrev IsSame : Checked → Type 0
IsSame check = check.verdict ≡ verdict.Same

-- how much a file counts
abbrev count_of : Verdict → ℕ
count_of v = cond (changes v) 1 0

abbrev counts : Checked → ℕ
counts check = count_of check.verdict

same_where : (v : Verdict) → count_of v ≡ 0 → v ≡ verdict.Same
same_where verdict.Same none = refl
same_where verdict.Differs none = absurd (omega (arith, none))
same_where verdict.Missing none = absurd (omega (arith, none))
same_where verdict.Unread none = absurd (omega (arith, none))

none_where : (v : Verdict) → v ≡ verdict.Same → count_of v ≡ 0
none_where v same = rw same refl

each_same : (checks : List Checked) → changed_count checks ≡ 0 → All IsSame checks
each_same [] none = All-nil IsSame
each_same (check ∷ checks) none =
    let both : counts check + changed_count checks ≡ 0 = sym (sum_by-cons counts check checks) ∙ none in
    let first : counts check ≡ 0 = omega (arith, both) in
    let rest : changed_count checks ≡ 0 = omega (arith, both) in
    All-cons IsSame check checks (same_where check.verdict first) (each_same checks rest)

none_changed_of : (checks : List Checked) → All IsSame checks → changed_count checks ≡ 0
none_changed_of [] same = refl
none_changed_of (check ∷ checks) same =
    let first : counts check ≡ 0 = none_where check.verdict (All-head IsSame check checks same) in
    let rest : changed_count checks ≡ 0 = none_changed_of checks (All-tail IsSame check checks same) in
    sum_by-cons counts check checks ∙ omega (arith, first, rest)

pub none_changed : NoneChanged
none_changed checks = (each_same checks, none_changed_of checks)

pub put_reads_back : PutReadsBack
put_reads_back s path pieces over known h = h s.put [] (record { path = path; pieces = Some pieces; over = over }) refl refl (All-nil (λ (other : KeptFile). other.path ≢ path))
