-- THE FILE OF A DIE THAT IS OPEN AND LOCKED.
use Rattle.std.specs.Prelude.{◌≡◌, Bool, true}
use Rattle.std.specs.declared.fs.options.OpenOptions.{OpenOptions}
use Rattle.std.specs.Fs.{new_options, with_read, with_write}
use Rattle.nanddisk.specs.declared.lock.LockedFile.{LockedFile}

-- how one is opened: for reading, and to be written where that is asked; nothing is made, cut or appended to
abbrev pub options_for : (writes : Bool) → OpenOptions
options_for writes = with_write (with_read new_options true) writes

-- it was opened so, and is held alone just where it is to be written
pub record IsFileHeld (writes : Bool) (l : LockedFile) : Type 0 where
  pub options_are : l.options ≡ options_for writes
  pub alone_is : l.alone ≡ writes
