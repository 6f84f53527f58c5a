use Rattle.collection.specs.Safe.{ram}
use Rattle.collection.specs.Room.{wanted}
use Rattle.ftl_device.proofs.RoomLemmas.{room_tells, room_made, room_cleans, room_knows}
use Rattle.ftl_device.proofs.LeaveLemmas.{leaves_by}
use Rattle.ftl_device.proofs.ready.make_room.Goals as goal

pub returns-clause-made : goal.returns-clause-made
returns-clause-made g c = room_made (wanted c.args.reserve (ram c.args.engine.now)) c.args.flushing c.make_room.result c.args.engine.now c.make_room.new.self
    (c.make_room.ensures.makes c.requires.going).collects (c.make_room.ensures.makes c.requires.going).rests
    (c.make_room.ensures.makes c.requires.going).goes (c.make_room.ensures.makes c.requires.going).keys c.make_room.ensures.room
    (c.make_room.ensures.makes c.requires.going).calm

pub returns-clause-cleans : goal.returns-clause-cleans
returns-clause-cleans g c = room_cleans c.make_room.result c.args.flushing (ram c.args.engine.now) (ram c.make_room.new.self) c.requires.safe.memory
    c.make_room.ensures.stands.safe.memory (c.make_room.ensures.makes c.requires.going).goes.geometry
    (c.make_room.ensures.makes c.requires.going).refreshes (c.make_room.ensures.makes c.requires.going).calm

pub returns-clause-leaves : goal.returns-clause-leaves
returns-clause-leaves g c = leaves_by g.N.PageSource.view
    c.args.engine.now c.make_room.new.self c.make_room.result c.requires.going c.make_room.ensures.stands
    (c.make_room.ensures.makes c.requires.going).goes.geometry
    (room_tells c.make_room.result (ram c.args.engine.now) (ram c.make_room.new.self) c.requires.safe.memory c.make_room.ensures.stands.safe.memory (c.make_room.ensures.makes c.requires.going).goes ((c.make_room.ensures.makes c.requires.going).tells))
    (λ honest k ne. c.make_room.ensures.stops honest c.requires.going k.truth k.passed ne)
    (λ honest k bus. c.make_room.ensures.cut honest c.requires.going k.truth k.passed bus)

pub returns-clause-truth : goal.returns-clause-truth
returns-clause-truth g c = λ honest k. (c.make_room.ensures.makes c.requires.going).truth honest k.truth k.passed

pub returns-clause-count : goal.returns-clause-count
returns-clause-count g c = λ honest k. c.make_room.ensures.count honest c.requires.going k.truth k.passed k.few

pub returns-clause-pinned : goal.returns-clause-pinned
returns-clause-pinned g c = λ honest k. room_knows g.N.PageSource.view c.make_room.result c.args.engine.now
    c.make_room.new.self (c.make_room.ensures.makes c.requires.going).calm (c.make_room.ensures.makes c.requires.going).works
    ((c.make_room.ensures.makes c.requires.going).truth honest k.truth k.passed)
    ((c.make_room.ensures.makes c.requires.going).few honest k.truth k.passed k.few) k

-- ---- what the calls want

pub make_room-requires-clause-safe : goal.make_room-requires-clause-safe
make_room-requires-clause-safe g c = c.requires.safe

pub make_room-requires-clause-flushes : goal.make_room-requires-clause-flushes
make_room-requires-clause-flushes g c = c.requires.flushes

pub make_room-requires-clause-calm : goal.make_room-requires-clause-calm
make_room-requires-clause-calm g c = λ none. c.requires.calm

pub returns-clause-keys : goal.returns-clause-keys
returns-clause-keys g c = (c.make_room.ensures.makes c.requires.going).keys
