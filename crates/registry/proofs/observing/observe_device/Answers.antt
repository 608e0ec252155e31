use Rattle.registry.proofs.observing.observe_device.Goals as goal

pub returns-in_ok-send_line-in-Ok : goal.returns-in_ok-send_line-in-Ok
returns-in_ok-send_line-in-Ok c = record {
  path = c.device_path.result;
  path_is = c.device_path.ensures;
  request = c.in-Ok.request;
  observes = c.in-Ok.ensures.read;
  text_is = c.in_ok-send_line-in-Ok.ensures;
}
