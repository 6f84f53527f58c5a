-- How a fault of a file is told.
use Rattle.std.proofs.Common.{◌≡◌, inl, inr, ℕ, List, refl, subst, sym}
use Rattle.std.specs.Borrow.{Bor}
use Rattle.disk_commands.specs.declared.files.DiskFileFault.{DiskFileFault}
use Rattle.disk_commands.specs.declared.files.DiskFileFault.TheVariants as file
use Rattle.disk_commands.specs.declared.text.DiskCommandFault.{DiskCommandFault}
use Rattle.disk_commands.specs.Files.{DiskFileAnswers, FailsCopy}
use Rattle.disk_commands.specs.declared.shape_text.DiskText.{DiskText}
use Rattle.disk_commands.specs.Opening.{file_bytes, IsCopyFault, IsFaultAt, IsNotAt, IsNotFree, IsShapeFault, IsTextAt, told_at, told_of_copy}

pub fault_at : (a : DiskFileAnswers) (f : DiskFileFault) (path : Bor (List ℕ)) (wanted : ℕ) → a.fails path.now f → IsFaultAt a path.now wanted (told_at f path wanted)
fault_at a file.Read path wanted h = (refl, h)
fault_at a file.Write path wanted h = (refl, h)
fault_at a file.InUse path wanted h = (refl, h)
fault_at a file.Exists path wanted h = (refl, h)
fault_at a (file.Length found) path wanted h = (refl, refl, h)
fault_at a file.OutOfMemory path wanted h = h

pub copy_fault : (a : DiskFileAnswers) (f : DiskFileFault) (path dump : Bor (List ℕ)) (wanted : ℕ) → FailsCopy a path.now dump.now f → IsCopyFault a path.now dump.now wanted (told_of_copy f path dump wanted)
copy_fault a file.Read path dump wanted h = inl (refl, h)
copy_fault a file.Write path dump wanted h = inr (refl, h)
copy_fault a file.InUse path dump wanted h = inr (refl, h)
copy_fault a file.Exists path dump wanted h = inr (refl, h)
copy_fault a (file.Length found) path dump wanted h = inl (refl, refl, h)
copy_fault a file.OutOfMemory path dump wanted h = inr h

-- a file of the shape could not be read
pub shape_fault : (a : DiskFileAnswers) (f : DiskFileFault) (path : Bor (List ℕ)) → a.fails path.now f → IsShapeFault a path.now (told_at f path 0)
shape_fault a file.Read path h = (refl, h)
shape_fault a file.Write path h = (refl, h)
shape_fault a file.InUse path h = (refl, h)
shape_fault a file.Exists path h = (refl, h)
shape_fault a (file.Length found) path h = (refl, refl, h)
shape_fault a file.OutOfMemory path h = h

-- what stands at a path could not be asked
pub not_free : (a : DiskFileAnswers) (f : DiskFileFault) (path : Bor (List ℕ)) → a.fails path.now f → IsNotFree a path.now (told_at f path 0)
not_free a file.Read path h = (refl, h)
not_free a file.Write path h = (refl, h)
not_free a file.InUse path h = (refl, h)
not_free a file.Exists path h = (refl, inr h)
not_free a (file.Length found) path h = (refl, refl, h)
not_free a file.OutOfMemory path h = h

-- ---- why a disk was not opened

-- its die was not locked
pub not_locked : (a : DiskFileAnswers) (f : DiskFileFault) (path : Bor (List ℕ)) (told : DiskCommandFault) → a.fails path.now f → told ≡ told_at f path 0 → IsNotAt a path.now told
not_locked a f path told fails is = inl (subst (IsShapeFault a path.now) (sym is) (shape_fault a f path fails))

-- or its file not opened, whose shape is told
pub no_file : (a : DiskFileAnswers) (f : DiskFileFault) (path : Bor (List ℕ)) (wanted : ℕ) (text : DiskText) (told : DiskCommandFault)
    → IsTextAt a path.now text → a.fails path.now f → wanted ≡ file_bytes text.shape → told ≡ told_at f path wanted → IsNotAt a path.now told
no_file a f path wanted text told at fails bytes is =
    inr (text, at, subst (λ n. IsFaultAt a path.now n told) bytes (subst (IsFaultAt a path.now wanted) (sym is) (fault_at a f path wanted fails)))

-- a call that names the path failed
pub told_fault : (a : DiskFileAnswers) (f : DiskFileFault) (path : Bor (List ℕ)) (wanted : ℕ) (told : DiskCommandFault) → a.fails path.now f → told ≡ told_at f path wanted → IsFaultAt a path.now wanted told
told_fault a f path wanted told fails is = subst (IsFaultAt a path.now wanted) (sym is) (fault_at a f path wanted fails)
