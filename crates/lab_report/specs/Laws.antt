-- WHAT IS WRITTEN OF A REPORT SAYS THAT REPORT, where each digest in it is of 32 bytes.
use Rattle.std.specs.Prelude.{◌≡◌, All, Some, length}
use Rattle.hex.specs.Hex.{IsBytes}
use Rattle.serde_json.specs.Data.{Data}
use Rattle.lab_report.specs.Note.{Note, Told}
use Rattle.lab_report.specs.Reading.{told_in}
use Rattle.lab_report.specs.Written.{report_data}

-- its digest is of 32 bytes
pub record HasWholeDigest (note : Note) : Type 0 where
  pub size : length note.sha256 ≡ 32
  pub bytes : IsBytes note.sha256

-- each is
pub record HasDigests (t : Told) : Type 0 where
  pub read : All HasWholeDigest t.read
  pub wrote : All HasWholeDigest t.wrote

abbrev pub ReadsBack : Type 0
ReadsBack = (t : Told) → HasDigests t → told_in (report_data t) ≡ Some t

-- WHAT IS READ AS A REPORT HAS SUCH DIGESTS.
abbrev pub ReadsDigests : Type 0
ReadsDigests = (d : Data) (t : Told) → told_in d ≡ Some t → HasDigests t
