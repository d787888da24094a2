-- The look, by its three parts.
use Rattle.engine.proofs.look.Goals as goal

pub returns : goal.returns
returns c = c.look_over.ensures _ _ (c.rest_sound-rest.ensures _ c.rows_sound-rows.ensures)
