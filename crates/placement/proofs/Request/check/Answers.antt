-- `placement::Request::check` meets its contract. Where the counts are few enough, so is the target. Assumes nothing.
use Rattle.placement.proofs.Answered.{target_few}
use Rattle.placement.proofs.Request.check.Goals as goal

pub spacing-requires : goal.spacing-requires
spacing-requires c =
    target_few c.args.self.now _ c.few_enough.ensures c.in_ok-require.ensures
