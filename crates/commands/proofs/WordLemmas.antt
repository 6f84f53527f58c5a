-- From the words that are numbers, or are not, to what a command asks for.
use Rattle.std.proofs.Common.{◌≡◌, ℕ, List, Some, None, inl, inr}
use Rattle.page_layout.specs.declared.geometry.Geometry.{Geometry}
use Rattle.program_words.specs.declared.numbers.GeometryNumbers.{GeometryNumbers}
use Rattle.program_words.specs.Numbers.{SpellsGeometry, number_of}
use Rattle.commands.specs.declared.text.CommandFault.{CommandFault}
use Rattle.commands.specs.declared.text.CommandFault.TheVariants as fault
use Rattle.command_words.specs.declared.words.CertificateWords.{CertificateWords}
use Rattle.command_words.specs.declared.words.ImageWords.{ImageWords}
use Rattle.commands.specs.Check.{IsUnasked}
use Rattle.commands.specs.Inputs.{AreNoNumbers, AreNumbers, IsBadGeometry, IsBadNumber}
use Rattle.commands.specs.Sector.{AsksForNumber}

-- the first word is no geometry's, or the second no number, or the numbers are of no die
pub no_sizes : (sizes count : List ℕ) (stop : CommandFault) → IsBadNumber sizes stop → ((numbers : GeometryNumbers) → ¬ SpellsGeometry sizes numbers) → AreNoNumbers sizes count stop
no_sizes sizes count (fault.BadNumber word) bad none = inl (bad, none)
no_sizes sizes count _ bad none = absurd bad

pub no_count : (sizes count : List ℕ) (numbers : GeometryNumbers) (stop : CommandFault) → SpellsGeometry sizes numbers → IsBadNumber count stop → number_of count ≡ None → AreNoNumbers sizes count stop
no_count sizes count numbers (fault.BadNumber word) spelled bad none = inr (bad, (numbers, spelled), none)
no_count sizes count numbers _ spelled bad none = absurd bad

pub no_die : (sizes count : List ℕ) (numbers : GeometryNumbers) (n : ℕ) (stop : CommandFault) → SpellsGeometry sizes numbers → number_of count ≡ Some n → IsBadGeometry numbers stop → AreNoNumbers sizes count stop
no_die sizes count numbers n (fault.Geometry broken) spelled is bad = (numbers, n, spelled, is, bad)
no_die sizes count numbers n _ spelled is bad = absurd bad

-- so a command that wants a capacity asks for nothing
pub unasked : (words : CertificateWords) (stop : CommandFault) → AreNoNumbers words.geometry.now words.capacity.now stop → IsUnasked words stop
unasked words (fault.BadNumber word) un = un
unasked words (fault.Geometry broken) un = un
unasked words _ un = absurd un

pub asks_for : (words : ImageWords) (g : Geometry) (n : ℕ) → AreNumbers words.geometry.now words.number.now g n → AsksForNumber words g n
asks_for words g n is = record { numbers = is.numbers; geometry = is.spelled; sector = is.number_is; valid = is.valid }
