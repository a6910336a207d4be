-- `engine_example::baseline_apart` meets its contract, from what its rooms show alone.
use lib.ListN.{length}
use Rattle.method.specs.Table.{history}
use Rattle.engine_baseline.proofs.Store.{words}
use Rattle.engine_example.specs.Apart.{apart}
use Rattle.engine_example.proofs.baseline_apart.Goals as goal

pub returns : goal.returns
returns c =
    let a = c.args in
    let h = history (apart a.request.event a.before a.today a.gap a.readings.now) in
    rw (words {h = h} c.rooms_apart-rooms.ensures a.moves.now (length a.out.now)) at c.baseline_over.ensures
