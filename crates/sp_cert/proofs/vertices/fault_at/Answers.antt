use Rattle.sp_cert.proofs.vertices.fault_at.Goals as goal

pub returns-in-None : goal.returns-in-None
returns-in-None g c = λ v rule h. c.in-None.ensures {u = tt} rule h.1
