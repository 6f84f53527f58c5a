-- From what the format of a die came to, to what became of its image.
use Rattle.std.proofs.Common.{true, ◌≡◌, ◌++◌, drop, take, ℕ, ◌≤◌, ◌*◌, List, [], length, Ok, Err, OnOk, IfErr, Result, inl, inr, refl, ap, arith, sym, subst, ◌∙◌}
use Rattle.std.specs.Io.KnownBytes.{Appends, Keeps}
use lib.Seq.{take-append_seam}
use Rattle.page_layout.specs.declared.geometry.Geometry.{Geometry}
use Rattle.page_layout.specs.Counter.{HasRisen}
use Rattle.page_layout.specs.Faults.{HasNumbers}
use Rattle.page_layout.specs.Geometry.{need, row_count, page_bytes}
use Rattle.page_layout.specs.Flash.{Flash}
use Rattle.page_layout.specs.Raw.{raw_image, raw_bytes}
use Rattle.nand_die.specs.DieValue.{DieValue}
use Rattle.nand_die.specs.Made.{loaded_flash}
use Rattle.mount.specs.declared.format_fault.FormatFault.{FormatFault}
use Rattle.mount.specs.declared.format_fault.FormatFault.TheVariants as refuse
use Rattle.mount.specs.Formatted.{Formats, IsFormatted}
use Rattle.mount.specs.Log.{failures}
use Rattle.program_words.specs.declared.numbers.GeometryNumbers.{GeometryNumbers}
use Rattle.program_words.specs.Numbers.{SpellsGeometry}
use Rattle.commands.specs.declared.text.CommandFault.{CommandFault}
use Rattle.commands.specs.declared.text.CommandFault.TheVariants as fault
use Rattle.command_words.specs.declared.words.FileWords.{FileWords}
use Rattle.commands.specs.Files.{LoadAnswers, Left, LeavesUntouched, IsUnstored, with_store, written_file}
use Rattle.commands.specs.Lines.{IsLineUnprinted}
use Rattle.commands.specs.Inputs.{TellsUnread}
use Rattle.commands.specs.Steady.{is_flawless}
use Rattle.commands.proofs.LogLemmas.{all_passed}
use Rattle.commands.specs.Format.{DoesFormat, HasFormatted, HasInput, IsFormatRefused, IsFormattedImage, IsGeometry, IsImageUnformatted, good_line}

-- the die that came back holds the image of the one that was formatted, and no program failed
pub formatted_image : (g : Geometry) (before after : List ℕ) (good : ℕ) (old new : Flash) (back : DieValue) → length before ≡ row_count g * page_bytes g
    → old ≡ loaded_flash g before [] → IsFormatted g (need g) old new good → back.state.flash ≡ new → new.geometry ≡ g → is_flawless back ≡ true
    → raw_image back.state.flash.geometry after ≡ back.state.flash.image → after ≡ raw_bytes back.state.flash.image → IsFormattedImage g before after good
formatted_image g before after good old new back whole loaded formatted same its flawless pages bytes =
    let its_format : IsFormatted g (need g) (loaded_flash g before []) back.state.flash good =
    subst (λ (f : Flash). IsFormatted g (need g) f back.state.flash good) loaded (subst (λ (f : Flash). IsFormatted g (need g) old f good) (sym same) formatted) in
    record {
      whole = whole;
      flash = back.state.flash;
      formatted = its_format;
      passed = all_passed g before _ back its_format.log flawless its_format.done.legal its_format.done.leads;
      pages = ap (λ h. raw_image h after) (sym (ap (λ (f : Flash). f.geometry) same ∙ its)) ∙ pages;
      bytes = bytes;
    }

-- a count that stays 0 has not risen
pub not_risen : (was now most : ℕ) → HasRisen was now → now ≤ most → most ≡ 0 → ⊥
not_risen was now most (inl rose) le none = omega arith
not_risen was now most (inr top) le none = omega arith

-- a refusal of a die of which no program failed
refused_as : (g : Geometry) (before : List ℕ) (refused : FormatFault) (back : DieValue) → is_flawless back ≡ true → (refused ≡ refuse.Bus → ⊥)
    → Formats g (need g) (loaded_flash g before []) back.state.flash (Err refused) → IsFormatRefused g (raw_image g before) refused
refused_as g before (refuse.TooFewGood good asked) back flawless answered few =
    let passed : failures few.log ≡ 0 = all_passed g before _ back few.log flawless few.done.legal few.done.leads in
    (omega (arith, few.fewer, passed), few.few, few.asked_is)
refused_as g before refuse.Bus back flawless answered formats = absurd (answered refl)
refused_as g before refuse.OutOfMemory back flawless answered same = tt
refused_as g before refuse.WriteFailed back flawless answered failed =
    let passed : failures failed.log ≡ 0 = all_passed g before _ back failed.log flawless failed.done.legal failed.done.leads in
    absurd (omega (arith, failed.three, passed))
refused_as g before (refuse.NotFresh row) back flawless answered used = (used.enough, used.first)

pub unformatted : (g : Geometry) (before : List ℕ) (refused : FormatFault) (old new : Flash) (back : DieValue) → length before ≡ row_count g * page_bytes g
    → old ≡ loaded_flash g before [] → Formats g (need g) old new (Err refused) → back.state.flash ≡ new → is_flawless back ≡ true → (refused ≡ refuse.Bus → ⊥) → IsImageUnformatted g before (fault.Format refused)
unformatted g before refused old new back whole loaded formats same flawless answered = (
  whole,
  refused_as g before refused back flawless answered
      (subst (λ (f : Flash). Formats g (need g) f back.state.flash (Err refused)) loaded (subst (λ (f : Flash). Formats g (need g) old f (Err refused)) (sym same) formats)),
)

-- ---- the command

-- a file that was not read ends it
pub unread_formats : (gives : LoadAnswers) (words : FileWords) (g : Geometry) (before after : Left) (fault : CommandFault)
    → IsGeometry words g → LeavesUntouched before after → TellsUnread gives words.input.now fault → DoesFormat gives words before after (Err fault)
unread_formats gives words g before after (fault.Read path) asked leaves unread = (leaves, unread.0, unread.1, (g, asked))
unread_formats gives words g before after fault.OutOfMemory asked leaves unread = (leaves, inl (g, asked, unread))
unread_formats gives words g before after _ asked leaves unread = absurd unread

-- so does an image that was not formatted
pub refused_formats : (gives : LoadAnswers) (words : FileWords) (g : Geometry) (bytes : List ℕ) (before after : Left) (fault : CommandFault)
    → HasInput gives words g bytes → LeavesUntouched before after → IsImageUnformatted g bytes fault → DoesFormat gives words before after (Err fault)
refused_formats gives words g bytes before after fault.WrongLength input leaves un = (leaves, (g, bytes, input, un))
refused_formats gives words g bytes before after (fault.Die broken) input leaves un = (leaves, (g, bytes, input, un))
refused_formats gives words g bytes before after (fault.Format refused) input leaves un = (leaves, (g, bytes, input, un))
refused_formats gives words g bytes before after _ input leaves un = absurd un

-- a vector whose whole slice was written holds the slice
pub kept_whole : (n : ℕ) (xs ys : List ℕ) → length xs ≡ n → take n (xs ++ drop (length xs) ys) ≡ xs
kept_whole n xs ys e = ap (λ k. take k (xs ++ drop (length xs) ys)) (sym e) ∙ take-append_seam xs (drop (length xs) ys)

-- the vector's bytes are those of the slice that was formatted
pub has_formatted : (gives : LoadAnswers) (words : FileWords) (numbers : GeometryNumbers) (g : Geometry) (loaded before after stored : List ℕ) (good n : ℕ) → SpellsGeometry words.geometry.now numbers
    → HasNumbers numbers.data_bytes numbers.spare_bytes numbers.pages numbers.blocks numbers.sectors g → gives words.input.now (Ok loaded) → before ≡ loaded
    → stored ≡ take n (after ++ drop (length after) loaded) → length after ≡ n → IsFormattedImage g before after good → HasFormatted gives words stored good
has_formatted gives words numbers g loaded before after stored good n spelled valid given same taken whole formatted = let kept = taken ∙ kept_whole n after loaded whole in record {
  geometry = g;
  before = loaded;
  input = record { asked = record { numbers = numbers; spelled = spelled; valid = valid }; given = given };
  formatted = subst (λ (bytes : List ℕ). IsFormattedImage g bytes stored good) same (subst (λ (bytes : List ℕ). IsFormattedImage g before bytes good) (sym kept) formatted);
}

-- and one that was not stored, before anything was printed
pub unstored_formats : (gives : LoadAnswers) (words : FileWords) (bytes : List ℕ) (good : ℕ) (before after : Left) (fault : CommandFault)
    → HasFormatted gives words bytes good → Keeps before.out after.out → IsUnstored words.output.now bytes before.stores after.stores fault → DoesFormat gives words before after (Err fault)
unstored_formats gives words bytes good before after (fault.Write path) has keeps un = (bytes, good, has, inl (un.0, un.1, keeps))
unstored_formats gives words bytes good before after fault.OutOfMemory has keeps un = ((un, keeps), inr (bytes, good, has))
unstored_formats gives words bytes good before after _ has keeps un = absurd un

-- the line was printed, or not, after the store
pub printed_formats : (gives : LoadAnswers) (words : FileWords) (bytes : List ℕ) (good : ℕ) (before after : Left) (result : Result (Unit {0}) CommandFault)
    → HasFormatted gives words bytes good → after.stores ≡ with_store before.stores (written_file words.output.now bytes)
    → OnOk result (Appends before.out after.out (good_line good)) → IfErr result (IsLineUnprinted (good_line good) before.out after.out) → DoesFormat gives words before after result
printed_formats gives words bytes good before after (Ok done) has stored told un = (bytes, good, has, stored, told)
printed_formats gives words bytes good before after (Err (fault.Write path)) has stored told un = (bytes, good, has, inr (un.0, stored, un.1))
printed_formats gives words bytes good before after (Err _) has stored told un = absurd un
