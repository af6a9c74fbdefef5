use Rattle.std.proofs.Common.{◌≡◌, ◌<◌, ◌≤◌, ◌+◌, length, Ok, Err, arith}
use Rattle.lwip_run.specs.Reading.{IsLonger}
use Rattle.lwip_run.proofs.InputLemmas.{reading_anyway, reading_ends, reading_fails, reading_stops}
use Rattle.lwip_run.proofs.inputs.read_whole.Goals as goal

pub returns-in-Ok-eq0 : goal.returns-in-Ok-eq0
returns-in-Ok-eq0 g c =
    let seen = g.F.Files.seen in
    let is : c.read.result ≡ Ok 0 = cc in
    let room : 0 < length c.read.new.buf = omega (arith, c.split_at_mut-room.ensures.front_len, c.min-most.ensures) in
    let few : length c.loop-piece.octets.items ≤ c.args.limit = omega (arith, c.loop-piece-test.true, c.len.ensures) in
    reading_ends (seen c.args.files.now) (seen c.loop-piece.files) (seen c.read.new.self) c.args.name.now c.in-Ok.number c.loop-piece.octets.items c.read.new.buf c.args.limit
    c.read.result is room few (g.met.F.Files.tells c.read.new.self) c.loop-piece.invariant c.read.ensures

pub returns-then-is_err : goal.returns-then-is_err
returns-then-is_err g c =
    let seen = g.F.Files.seen in
    reading_anyway (seen c.args.files.now) (seen c.loop-piece.files) (seen c.read.new.self) c.args.name.now c.in-Ok.number c.loop-piece.octets.items c.read.new.buf c.args.limit
    c.read.result (g.met.F.Files.tells c.read.new.self) c.loop-piece.invariant c.read.ensures

pub returns-in-Err-read : goal.returns-in-Err-read
returns-in-Err-read g c =
    let seen = g.F.Files.seen in
    let is : c.read.result ≡ Err c.in-Err-read.field-0 = cc in
    reading_fails (seen c.args.files.now) (seen c.loop-piece.files) (seen c.read.new.self) c.args.name.now c.in-Ok.number c.loop-piece.octets.items c.read.new.buf c.args.limit
    c.read.result c.in-Err-read.field-0 is (g.met.F.Files.tells c.read.new.self) c.loop-piece.invariant c.read.ensures

pub returns : goal.returns
returns g c =
    let seen = g.F.Files.seen in
    let long : length c.loop-piece.octets.items ≡ c.args.limit + 1 = omega (arith, c.loop-piece-test.false, c.len.ensures, c.loop-piece.invariant.few) in
    reading_stops (seen c.args.files.now) (seen c.loop-piece.files) c.args.name.now c.in-Ok.number c.loop-piece.octets.items c.args.limit
    (g.met.F.Files.tells c.loop-piece.files) c.loop-piece.invariant (IsLonger c.args.limit) long
