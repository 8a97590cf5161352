use Rattle.sp_cert.proofs.forests.fault_by_root.Goals as goal

pub returns-in-None : goal.returns-in-None
returns-in-None g c = λ v rule h. c.in-None.ensures {u = tt} rule h.1
