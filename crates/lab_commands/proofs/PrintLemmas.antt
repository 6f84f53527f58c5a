-- Documents, part by part.
use Rattle.std.proofs.Common.{◌≡◌, ◌⊎◌, inl, inr, ℕ, zero, suc, ◌+◌, ◌<◌, List, [], ◌++◌, Option, Result, Ok, Err, ap, refl, sym, subst, ◌∙◌, append_assoc, append-nil, arith}
use Rattle.std.proofs.Math.Nat.{eq-or-lt_of_le}
use Rattle.std.specs.Result.{IsErrAnd}
use Rattle.std.specs.Io.KnownBytes.{Appends}
use Rattle.std.proofs.KnownBytes.{Appends-nil, Appends-trans}
use Rattle.request_stream.proofs.Writing.{part_more, part_stop}
use Rattle.std.specs.Prelude.{Bool, IfErr, OnOk}
use Rattle.lab_commands.specs.declared.text.LabFault.{LabFault}
use Rattle.lab_commands.specs.declared.text.LabFault.TheVariants as fault
use Rattle.lab_commands.specs.Undone.{EndsAsPrinted, IsHalfPrinted, TellsPrint}
use Rattle.lab_commands.specs.declared.lines.Line.{Line}
use Rattle.lab_commands.specs.declared.document.ReportForm.{ReportForm}
use Rattle.lab_commands.specs.declared.output.OutputFault.{OutputFault}
use Rattle.lab_commands.specs.Document.{Prints, StopsPrinting, if_text, text_below}

-- where it stopped in a part of what was due, it stopped in that with more behind it
pub stops_more : (e : OutputFault) (broke : Bool) (a b : Option (List ℕ)) (xs ys : List ℕ) → StopsPrinting e broke a b xs → StopsPrinting e broke a b (xs ++ ys)
stops_more e broke a b xs ys (is, part) = (is, part_stop a b xs ys (xs ++ ys) refl part)

-- and with more before it
pub stops_after : (e : OutputFault) (broke : Bool) (a b d : Option (List ℕ)) (xs ys : List ℕ) → Appends a b xs → StopsPrinting e broke b d ys → StopsPrinting e broke a d (xs ++ ys)
stops_after e broke a b d xs ys first (is, part) = (is, part_more a b d xs ys (xs ++ ys) refl first part)

-- what was printed after something else
pub prints_after : {T : Type 0} (broke : Bool) (a b d : Option (List ℕ)) (xs ys : List ℕ) (r : Result T OutputFault) → Appends a b xs → Prints broke b d ys r → Prints broke a d (xs ++ ys) r
prints_after broke a b d xs ys (Ok x) first last = Appends-trans a b d xs ys first last
prints_after broke a b d xs ys (Err e) first last = stops_after e broke a b d xs ys first last

-- two parts of what is due, and where it stopped in the first
pub both_parts : {T : Type 0} (broke : Bool) (a b d : Option (List ℕ)) (xs ys due : List ℕ) (r : Result T OutputFault) → xs ++ ys ≡ due → Appends a b xs → Prints broke b d ys r → Prints broke a d due r
both_parts broke a b d xs ys due r are first last = subst (λ t. Prints broke a d t r) are (prints_after broke a b d xs ys r first last)

pub first_part : {T : Type 0} (e : OutputFault) (broke : Bool) (a b : Option (List ℕ)) (xs ys due : List ℕ) (r : Result T OutputFault) → xs ++ ys ≡ due → IsErrAnd r (λ x. x ≡ e) → StopsPrinting e broke a b xs → Prints broke a b due r
first_part e broke a b xs ys due (Ok x) are is stops = absurd is
first_part e broke a b xs ys due (Err x) are is stops = subst (λ y. StopsPrinting y broke a b due) (sym is) (subst (λ t. StopsPrinting e broke a b t) are (stops_more e broke a b xs ys stops))

-- how it is told that not all was printed
pub half_printed : (e : OutputFault) (told : LabFault) (broke : Bool) (a b : Option (List ℕ)) (due : List ℕ) → TellsPrint e told → StopsPrinting e broke a b due → IsHalfPrinted broke a b due told
half_printed e (fault.Write word) broke a b due tells (is, part) = (tells, is, part)
half_printed e _ broke a b due tells stops = absurd tells

-- what a command that ends with its report has done, and why it has not
pub done_by : {T S : Type 0} (P : Type 0) (broke : Bool) (a b : Option (List ℕ)) (due : List ℕ) (printed : Result T OutputFault) (r : Result S LabFault) → Prints broke a b due printed → EndsAsPrinted printed r → (Appends a b due → P) → OnOk r P
done_by P broke a b due (Ok x) (Ok done) told ends made = made told
done_by P broke a b due (Err e) (Ok done) stops ends made = absurd ends
done_by P broke a b due printed (Err told) stops ends made = tt

pub undone_by : {T S : Type 0} (P : LabFault → Type 0) (broke : Bool) (a b : Option (List ℕ)) (due : List ℕ) (printed : Result T OutputFault) (r : Result S LabFault) → Prints broke a b due printed → EndsAsPrinted printed r
    → ((told : LabFault) → IsHalfPrinted broke a b due told → P told) → IfErr r P
undone_by P broke a b due (Ok x) (Err told) done ends made = absurd ends
undone_by P broke a b due (Err e) (Err told) stops ends made = made told (half_printed e told broke a b due ends stops)
undone_by P broke a b due printed (Ok done) told ends made = tt

-- ---- the lines of a list

-- those of the first numbers, those of the next, and the rest
below_last : (form : ReportForm) (f : ℕ → Option Line) (n k : ℕ) → ((l : n < k) → (rest : List ℕ) × (text_below form f n ++ (if_text form (f n) ++ rest) ≡ text_below form f k))
    → (n ≡ k) ⊎ (n < k) → (rest : List ℕ) × (text_below form f n ++ (if_text form (f n) ++ rest) ≡ text_below form f k ++ if_text form (f k))
below_last form f n k before (inl is) =
    ([], subst (λ m. text_below form f n ++ (if_text form (f n) ++ []) ≡ text_below form f m ++ if_text form (f m)) is (ap (λ t. text_below form f n ++ t) (append-nil (if_text form (f n)))))
below_last form f n k before (inr below) =
    let found = before below in
    (found.0 ++ if_text form (f k), sym (append_assoc (text_below form f n) (if_text form (f n) ++ found.0) (if_text form (f k)) ∙ ap (λ t. text_below form f n ++ t) (append_assoc (if_text form (f n)) found.0 (if_text form (f k)))) ∙ ap (λ t. t ++ if_text form (f k)) found.1)

below_split : (form : ReportForm) (f : ℕ → Option Line) (n k : ℕ) → n < k → (rest : List ℕ) × (text_below form f n ++ (if_text form (f n) ++ rest) ≡ text_below form f k)
unfolding text_below
below_split form f n zero l = absurd (omega arith)
below_split form f n (suc k) l = below_last form f n k (λ below. below_split form f n k below) (eq-or-lt_of_le (omega arith))

-- where it stopped in the line of one of them, behind those before it
pub stops_below : (e : OutputFault) (broke : Bool) (form : ReportForm) (f : ℕ → Option Line) (n k : ℕ) (a b d : Option (List ℕ)) → n < k → Appends a b (text_below form f n) → StopsPrinting e broke b d (if_text form (f n)) → StopsPrinting e broke a d (text_below form f k)
stops_below e broke form f n k a b d l first last =
    let split = below_split form f n k l in
    subst (λ t. StopsPrinting e broke a d t) split.1 (stops_after e broke a b d (text_below form f n) (if_text form (f n) ++ split.0) first (stops_more e broke b d (if_text form (f n)) split.0 last))

pub none_below : (form : ReportForm) (f : ℕ → Option Line) (a : Option (List ℕ)) → Appends a a (text_below form f 0)
unfolding text_below
none_below form f a = Appends-nil a

-- one line more
pub one_more : (form : ReportForm) (f : ℕ → Option Line) (n : ℕ) (a b d : Option (List ℕ)) → Appends a b (text_below form f n) → Appends b d (if_text form (f n)) → Appends a d (text_below form f (n + 1))
unfolding text_below
one_more form f n a b d first last =
    let next : suc n ≡ n + 1 = omega arith in
    subst (λ (m : ℕ). Appends a d (text_below form f m)) next (Appends-trans a b d (text_below form f n) (if_text form (f n)) first last)

-- ---- where printing failed

pub failed : {T : Type 0} (e : OutputFault) (r : Result T OutputFault) (broke : Bool) (a b : Option (List ℕ)) (due : List ℕ) → IsErrAnd r (λ x. x ≡ e) → StopsPrinting e broke a b due → Prints broke a b due r
failed e (Ok x) broke a b due h stops = absurd h
failed e (Err x) broke a b due h stops = subst (λ y. StopsPrinting y broke a b due) (sym h) stops
