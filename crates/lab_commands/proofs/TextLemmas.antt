-- Parts of a line, one after another.
use Rattle.std.proofs.Common.{◌≡◌, Bool, true, ℕ, List, ◌++◌, Option, Result, Ok, Err, refl}
use Rattle.std.specs.Result.{IsErrAnd}
use Rattle.std.specs.Io.KnownBytes.{Appends}
use Rattle.std.proofs.KnownBytes.{Appends-trans}
use Rattle.request_stream.specs.Frames.{AppendsPart}
use Rattle.request_stream.proofs.Writing.{part_more, part_stop}
use Rattle.std.specs.Prelude.{OnErr}
use Rattle.lab_commands.specs.declared.output.OutputFault.{OutputFault}
use Rattle.lab_commands.specs.Document.{Prints}
use Rattle.lab_commands.specs.Output.{AppendsAllOrPart}

-- what was put after something else
pub puts_after : {T E : Type 0} (a b d : Option (List ℕ)) (xs ys : List ℕ) (r : Result T E) → Appends a b xs → AppendsAllOrPart b d ys r → AppendsAllOrPart a d (xs ++ ys) r
puts_after a b d xs ys (Ok x) first last = Appends-trans a b d xs ys first last
puts_after a b d xs ys (Err e) first part = part_more a b d xs ys (xs ++ ys) refl first part

-- a part that has more behind it
pub part_before : (a b : Option (List ℕ)) (xs ys : List ℕ) → AppendsPart a b xs → AppendsPart a b (xs ++ ys)
part_before a b xs ys part = part_stop a b xs ys (xs ++ ys) refl part

pub part_after : (a b d : Option (List ℕ)) (xs ys : List ℕ) → Appends a b xs → AppendsPart b d ys → AppendsPart a d (xs ++ ys)
part_after a b d xs ys first part = part_more a b d xs ys (xs ++ ys) refl first part

-- where a part was put, the answer is a fault
pub put_failed : {T E : Type 0} (P : E → Type 0) (r : Result T E) (a b : Option (List ℕ)) (due : List ℕ) → IsErrAnd r P → AppendsPart a b due → AppendsAllOrPart a b due r
put_failed P (Ok x) a b due h part = absurd h
put_failed P (Err e) a b due h part = part

-- a document that was printed or stopped is bytes that were put or not
pub prints_puts : {T : Type 0} (broke : Bool) (a b : Option (List ℕ)) (due : List ℕ) (r : Result T OutputFault) → Prints broke a b due r → AppendsAllOrPart a b due r
prints_puts broke a b due (Ok x) printed = printed
prints_puts broke a b due (Err e) stops = stops.1

pub prints_fail : {T : Type 0} (broke : Bool) (a b : Option (List ℕ)) (due : List ℕ) (r : Result T OutputFault) → Prints broke a b due r → OnErr r (broke ≡ true)
prints_fail broke a b due (Ok x) printed = tt
prints_fail broke a b due (Err e) stops = stops.0
