use Rattle.std.proofs.lemmas.Iterator.Consumers.{map_from_collect}
use Rattle.std.proofs.lemmas.Iterator.Splits.{YieldsList-from_slice_split}
use Rattle.std.proofs.Common.{rules}
use Rattle.script.specs.Pieces.{cuts_at}
use Rattle.script.proofs.Cutting.{pieces_split}
use Rattle.script.proofs.text.split.Goals as goal

pub returns : goal.returns
returns c =
    rw (← pieces_split (cuts_at c.args.at) c.args.text.now)
    (map_from_collect _ c.collect.ensures.ran (YieldsList-from_slice_split _ (cuts_at c.args.at) c.args.text.now c.split.ensures.rest c.split.ensures.done c.split.ensures.closure (λ x b q k. search rules)))
