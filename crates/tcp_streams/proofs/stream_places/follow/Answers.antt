use Rattle.tcp_streams.specs.PlacesKept.{IsSoundFollowed, ways_of}
use Rattle.tcp_streams.proofs.PlacesLemmas.{has_followed, has_room, place_here, room_of}
use Rattle.tcp_streams.proofs.stream_places.follow.Goals as goal

pub returns-clause-followed : goal.returns-clause-followed
returns-clause-followed c = has_followed c.args.streams.now.items c.args.number c.side_of-side.result c.args.s.now c.index_mut-stream.result.now c.take.new.self c.take.result
    (place_here c.args.streams.now.items c.args.number c.index_mut-stream.result.now c.requires.within c.index_mut-stream.ensures.value) c.side_of-side.ensures c.take.ensures.followed

sound : (c : goal.After-side_of-side) → IsSoundFollowed c.requires.sound.0 c.index_mut-stream.result.now
sound c = room_of c.requires.sound.0 c.args.streams.now.items c.args.number c.index_mut-stream.result.now c.requires.within c.index_mut-stream.ensures.value c.requires.sound.1

pub take-requires-clause-zero_room : goal.take-requires-clause-zero_room
take-requires-clause-zero_room c = has_room c.requires.sound.0 (ways_of c.index_mut-stream.result.now).zero.end (sound c).zero_room c.requires.sound.2

pub take-requires-clause-one_room : goal.take-requires-clause-one_room
take-requires-clause-one_room c = has_room c.requires.sound.0 (ways_of c.index_mut-stream.result.now).one.end (sound c).one_room c.requires.sound.2
