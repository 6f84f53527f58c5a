-- The parts behind the head, as they are cut off one after the other.
use Rattle.std.proofs.Common.{◌≡◌, ℕ, ◌*◌, length, take, drop, List, sym, ap, ◌∙◌, arith}
use Rattle.std.proofs.lemmas.List.{drop-drop, take_all, length-drop}
use Rattle.certificate.specs.Claim.{Sizes}
use Rattle.certificate.specs.Spelling.{directory_rows, directory_at, sectors_at, layout}

pub record AreParts (s : Sizes) (bytes blocks directory sectors : List ℕ) : Type 0 where
  pub blocks_are : blocks ≡ take (9 * s.blocks) (drop 40 bytes)
  pub directory_is : directory ≡ take (4 * directory_rows s) (drop (directory_at s) bytes)
  pub sectors_are : sectors ≡ take (4 * s.sectors) (drop (sectors_at s) bytes)

pub cut : (s : Sizes) (bytes behind blocks rows directory sectors : List ℕ) → length bytes ≡ layout s → behind ≡ drop 40 bytes
    → blocks ≡ take (9 * s.blocks) behind → rows ≡ drop (9 * s.blocks) behind → directory ≡ take (4 * directory_rows s) rows
    → sectors ≡ drop (4 * directory_rows s) rows
    → AreParts s bytes blocks directory sectors
cut s bytes behind blocks rows directory sectors long behind_is blocks_are rows_are directory_is sectors_are =
    let all_rows : rows ≡ drop (directory_at s) bytes = rows_are ∙ (ap (drop (9 * s.blocks)) behind_is ∙ drop-drop (9 * s.blocks) 40 bytes) in
    let last : sectors ≡ drop (sectors_at s) bytes = sectors_are ∙ (ap (drop (4 * directory_rows s)) all_rows ∙ drop-drop (4 * directory_rows s) (directory_at s) bytes) in
    record {
      blocks_are = blocks_are ∙ ap (take (9 * s.blocks)) behind_is;
      directory_is = directory_is ∙ ap (take (4 * directory_rows s)) all_rows;
      sectors_are = last ∙ sym (take_all (4 * s.sectors) (drop (sectors_at s) bytes) (omega (arith, length-drop (sectors_at s) bytes)));
    }
