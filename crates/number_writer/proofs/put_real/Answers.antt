-- `number_writer::put_real` meets its contract; a refused call has changed no byte. Assumes nothing.
use Rattle.refusals.proofs.Numbers.{answers_err}
use Rattle.number_writer.specs.Written.{put_real_left}
use Rattle.number_writer.proofs.put_real.Goals as goal

pub returns-in_err-put_refusal-clause-out_after : goal.returns-in_err-put_refusal-clause-out_after
unfolding put_real_left
returns-in_err-put_refusal-clause-out_after c = (answers_err c.in_err-put_refusal.field-0.0 _ c.args.out.now _ c.in_err-put_refusal.ensures).1
