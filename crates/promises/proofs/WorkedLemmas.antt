-- The streams that were worked out by hand.
use Rattle.std.proofs.Common.{refl, lit<, [], replicate}
use Rattle.std.specs.List.{AllByRecursion}
use Rattle.promises.specs.declared.stream.Op.TheVariants.{Read, Write, Trim, Flush, Turn}
use Rattle.promises.specs.Stream.{IsRequest, five_requests, FiveLaw, FiveCommandsLaw, FiveOutLaw, RefusalsLaw}

-- each of them is a request
each_of_five : AllByRecursion (IsRequest 64) five_requests
each_of_five = (flush, (read, (write, (trim, (turn, tt)))))
  where
    flush : IsRequest 64 (record { op = Flush; tag = 9; sector = 0; body = [] })
    flush = record { body = refl; tag = lit< tt; sector = lit< tt }

    read : IsRequest 64 (record { op = Read; tag = 7; sector = 32; body = [] })
    read = record { body = refl; tag = lit< tt; sector = lit< tt }

    write : IsRequest 64 (record { op = Write; tag = 2; sector = 40; body = replicate 64 17 })
    write = record { body = refl; tag = lit< tt; sector = lit< tt }

    trim : IsRequest 64 (record { op = Trim; tag = 3; sector = 5; body = [] })
    trim = record { body = refl; tag = lit< tt; sector = lit< tt }

    turn : IsRequest 64 (record { op = Turn; tag = 67305985; sector = 4294967295; body = [] })
    turn = record { body = refl; tag = lit< tt; sector = lit< tt }

pub five : FiveLaw
five = record { whole = refl; each = each_of_five; ends = refl }

pub five_commands : FiveCommandsLaw
five_commands = refl

pub five_out : FiveOutLaw
five_out = refl

pub refusals : RefusalsLaw
refusals = refl
