use Rattle.std.proofs.Common.{rules}
use Rattle.std.proofs.lemmas.List.Sorted.{IsPartitionPoint-from_clause}
use Rattle.layer.proofs.Rows.{began, era_is}
use Rattle.layer.proofs.table.Table.era_on.Goals as goal

pub returns : goal.returns
returns c =
    let h = c.partition_point.ensures in
    rw (← c.rows.ensures.rows) (era_is _ _ _ (rw c.rows.ensures.rows c.rows.ensures.fits) h.bound (λ p. IsPartitionPoint-from_clause (began c.args.day) c.rows.result.now c.partition_point.result h.partitioned p (λ x b f q. search rules)))
