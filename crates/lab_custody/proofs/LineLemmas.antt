-- The lines of files, and the bytes of a name, one after another.
use Rattle.std.proofs.Common.{◌≡◌, ◌+◌, ◌<◌, ℕ, suc, Bool, List, [], ◌∷◌, ◌++◌, length, take, drop, get_or, Option, Result, refl, sym, ap, subst, ◌∙◌, append_assoc, append-nil, arith}
use Rattle.std.proofs.lemmas.List.{take_more, take-append-drop}
use Rattle.std.specs.Prelude.{codes, decimal}
use Rattle.std.specs.Io.KnownBytes.{Appends}
use Rattle.std.proofs.KnownBytes.{Appends-trans}
use Rattle.json.specs.Print.{escape, escape_byte}
use Rattle.lab_commands.specs.declared.document.ReportForm.{ReportForm}
use Rattle.lab_commands.specs.declared.document.ReportForm.TheVariants.{Text, Json}
use Rattle.lab_commands.specs.declared.output.OutputFault.{OutputFault}
use Rattle.lab_commands.specs.Document.{Prints, StopsPrinting}
use Rattle.lab_commands.proofs.PrintLemmas.{prints_after, stops_after, stops_more}
use Rattle.lab_custody.specs.declared.checks.Checked.{Checked}
use Rattle.lab_custody.specs.declared.checks.Verdict.{Verdict}
use Rattle.lab_custody.specs.declared.checks.Verdict.TheVariants as verdict
use Rattle.lab_custody.specs.Lines.{check_text, checks_text, end_text, front_text, name_text, verified_text}

-- ---- a text of parts

-- one more part, behind the first ones
pub one_put : {X : Type 0} (t : List X → List ℕ) (one : X → List ℕ) → ((xs ys : List X) → t (xs ++ ys) ≡ t xs ++ t ys) → ((x : X) → t (x ∷ []) ≡ one x)
    → (xs : List X) (n : ℕ) (d : X) (a b e : Option (List ℕ)) → n < length xs → Appends a b (t (take n xs)) → Appends b e (one (get_or xs n d)) → Appends a e (t (take (n + 1) xs))
one_put t one both single xs n d a b e within first last =
    let is : t (take (n + 1) xs) ≡ t (take n xs) ++ one (get_or xs n d) =
    ap t (take_more xs n d within) ∙ (both (take n xs) (get_or xs n d ∷ []) ∙ ap (λ s. t (take n xs) ++ s) (single (get_or xs n d))) in
    subst (λ s. Appends a e s) (sym is) (Appends-trans a b e (t (take n xs)) (one (get_or xs n d)) first last)

-- where it stopped in one of them
pub stopped_put : {X : Type 0} (t : List X → List ℕ) (one : X → List ℕ) → ((xs ys : List X) → t (xs ++ ys) ≡ t xs ++ t ys) → ((x : X) → t (x ∷ []) ≡ one x)
    → (f : OutputFault) (broke : Bool) (xs : List X) (n : ℕ) (d : X) (a b e : Option (List ℕ)) → n < length xs → Appends a b (t (take n xs)) → StopsPrinting f broke b e (one (get_or xs n d)) → StopsPrinting f broke a e (t xs)
stopped_put t one both single f broke xs n d a b e within first last =
    let is : t (take (n + 1) xs) ≡ t (take n xs) ++ one (get_or xs n d) =
    ap t (take_more xs n d within) ∙ (both (take n xs) (get_or xs n d ∷ []) ∙ ap (λ s. t (take n xs) ++ s) (single (get_or xs n d))) in
    let whole : t xs ≡ t (take (n + 1) xs) ++ t (drop (n + 1) xs) = ap t (sym (take-append-drop (n + 1) xs)) ∙ both (take (n + 1) xs) (drop (n + 1) xs) in
    let front = stops_after f broke a b e (t (take n xs)) (one (get_or xs n d)) first last in
    subst (λ s. StopsPrinting f broke a e s) (sym whole) (stops_more f broke a e (t (take (n + 1) xs)) (t (drop (n + 1) xs)) (subst (λ s. StopsPrinting f broke a e s) (sym is) front))

-- ---- the bytes of a name

pub escape_both : (xs ys : List ℕ) → escape (xs ++ ys) ≡ escape xs ++ escape ys
escape_both [] ys = refl
escape_both (x ∷ xs) ys = ap (λ s. escape_byte x ++ s) (escape_both xs ys) ∙ sym (append_assoc (escape_byte x) (escape xs) (escape ys))

pub escape_one : (x : ℕ) → escape (x ∷ []) ≡ escape_byte x
escape_one x = append-nil (escape_byte x)

-- ---- the lines of files

pub checks_both : (form : ReportForm) (xs ys : List Checked) → checks_text form (xs ++ ys) ≡ checks_text form xs ++ checks_text form ys
checks_both form [] ys = refl
checks_both form (x ∷ xs) ys =
    ap (λ s. check_text form x.verdict x.name.now ++ s) (checks_both form xs ys) ∙ sym (append_assoc (check_text form x.verdict x.name.now) (checks_text form xs) (checks_text form ys))

pub checks_one : (form : ReportForm) (x : Checked) → checks_text form (x ∷ []) ≡ check_text form x.verdict x.name.now
checks_one form x = append-nil (check_text form x.verdict x.name.now)

-- ---- the parts of a line

pub parts_of_line : (form : ReportForm) (v : Verdict) (name : List ℕ) → front_text form v ++ (name_text form name ++ end_text form) ≡ check_text form v name
unfolding escape_byte
parts_of_line Text v name = refl
parts_of_line Json verdict.Same name = simp append_assoc
parts_of_line Json verdict.Differs name = simp append_assoc
parts_of_line Json verdict.Missing name = simp append_assoc
parts_of_line Json verdict.Unread name = simp append_assoc

-- ---- three parts, printed one after another

pub first_of_three : (e : OutputFault) (broke : Bool) (a b : Option (List ℕ)) (x y z due front : List ℕ) → x ++ (y ++ z) ≡ due → front ≡ x → StopsPrinting e broke a b front → StopsPrinting e broke a b due
first_of_three e broke a b x y z due front is begun stops = subst (λ t. StopsPrinting e broke a b t) is (stops_more e broke a b x (y ++ z) (subst (λ t. StopsPrinting e broke a b t) begun stops))

pub second_of_three : (e : OutputFault) (broke : Bool) (a b d : Option (List ℕ)) (x y z due front : List ℕ) → x ++ (y ++ z) ≡ due → front ≡ x → Appends a b front → StopsPrinting e broke b d y → StopsPrinting e broke a d due
second_of_three e broke a b d x y z due front is begun first stops =
    subst (λ t. StopsPrinting e broke a d t) is (stops_after e broke a b d x (y ++ z) (subst (λ t. Appends a b t) begun first) (stops_more e broke b d y z stops))

pub all_of_three : {T : Type 0} (broke : Bool) (a b d f : Option (List ℕ)) (x y z due front last : List ℕ) (r : Result T OutputFault) → x ++ (y ++ z) ≡ due → front ≡ x → last ≡ z → Appends a b front → Appends b d y
    → Prints broke d f last r → Prints broke a f due r
all_of_three broke a b d f x y z due front last r is begun ended first second prints =
    subst (λ t. Prints broke a f t r) is (prints_after broke a b f x (y ++ z) r (subst (λ t. Appends a b t) begun first) (prints_after broke b d f y z r second (subst (λ t. Prints broke d f t r) ended prints)))

-- ---- the count

pub verified_flat : (files changed : ℕ) → codes "verified " ++ (decimal files ++ (codes " changed " ++ (decimal changed ++ codes "\n"))) ≡ verified_text Text files changed
verified_flat files changed = simp append_assoc

pub verified_object : (files changed : ℕ) → codes ",\n{\"changed\":" ++ (decimal changed ++ (codes ",\"files\":" ++ (decimal files ++ codes ",\"line\":\"verified\"}\n]\n"))) ≡ verified_text Json files changed
unfolding escape_byte
verified_object files changed = simp append_assoc
