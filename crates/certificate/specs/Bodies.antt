-- What stands behind the head of whole bytes.
use Rattle.std.specs.Prelude.{◌≡◌, ℕ, List}
use Rattle.certificate.specs.declared.body.Body.{Body}
use Rattle.certificate.specs.Claim.{Sizes}
use Rattle.certificate.specs.Reading.{blocks_in, directory_in, sectors_in}

-- the states of the blocks and the words of the rows are those of the bytes
pub record IsBodyOf (s : Sizes) (bytes : List ℕ) (body : Body) : Type 0 where
  pub blocks_are : body.blocks.items ≡ blocks_in s bytes
  pub directory_is : body.directory.items ≡ directory_in s bytes
  pub sectors_are : body.sectors.items ≡ sectors_in s bytes
